-- H and V of a bounded table: what the register's bounds and the 64 bits of the code rest on.
-- Assumes nothing.
use Prim.Native.Nat.{◌+◌, ◌-◌, ◌*◌, ◌≤◌, ◌<◌}
use native.Mathlib.Omega.{arith}
use Rattle.quantity.specs.declared.units.Temperature.{Temperature}
use Rattle.water.specs.Table.{Table}
use Rattle.water.specs.Interpolation.{enthalpy_at, volume_at}
use Rattle.water.specs.Theorems.{TableBounds}
use Rattle.water.proofs.Interpolated.{lies, apart}

module _ (w : Table) (k : TableBounds w) where
  -- h grows by at least 4,100,000 mJ/kg per degree: H by as much for each hundredth of a degree
  enthalpy_apart :
      (a b : Temperature) → b.0 ≤ a.0 → a.0 ≤ 100 * w.last →
      enthalpy_at w b + 4100000 * (a.0 - b.0) ≤ enthalpy_at w a
  enthalpy_apart a b = apart w.specific_enthalpy w.last 4100000 k.grows a.0 b.0

  -- at least 1 K apart
  pub enthalpy_grows :
      (a b : Temperature) → b.0 + 100 ≤ a.0 → a.0 ≤ 100 * w.last →
      enthalpy_at w b + 100 * 4100000 ≤ enthalpy_at w a
  enthalpy_grows a b p q = omega (arith, enthalpy_apart a b (omega arith) q)

  pub enthalpy_at_most : (t : Temperature) → enthalpy_at w t ≤ 80000000000
  enthalpy_at_most t = (lies w.specific_enthalpy w.last 0 800000000 (λ d l. (omega arith, k.most_enthalpy d l)) t.0).1

  pub volume_lies : (t : Temperature) → (90000000000 ≤ volume_at w t) × (volume_at w t ≤ 113000000000)
  volume_lies t = lies w.specific_volume w.last 900000000 1130000000 (λ d l. (k.least_volume d l, k.most_volume d l)) t.0

  -- H never falls, so that the difference of whole numbers, H of the warmer less H of the colder, never stops at 0; and V is above zero
  pub enthalpy_in_order : (a b : Temperature) → b.0 ≤ a.0 → a.0 ≤ 100 * w.last → enthalpy_at w b ≤ enthalpy_at w a
  enthalpy_in_order a b p q = omega (arith, enthalpy_apart a b p q)

  pub volume_above_zero : (t : Temperature) → 0 < volume_at w t
  volume_above_zero t = omega (arith, volume_lies t)
