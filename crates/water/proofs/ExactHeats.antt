-- Laws of the exact heat, over any bounded table, for any two temperatures of its range and V at any temperature.
-- Assumes nothing.
use mathlib.Core.Path.{◌≡◌}
use mathlib.Core.Bool.{true, false}
use Prim.Native.Nat.{ℕ, ◌+◌, ◌-◌, ◌*◌, ◌≤◌, ◌<◌}
use native.Mathlib.Nat.{mul-le-mul}
use native.Mathlib.Omega.{arith}
use Rattle.quantity.specs.Units.{is_colder}
use Rattle.quantity.specs.declared.units.Temperature.{Temperature}
use Rattle.quantity.specs.Fractions.{whole, IsFraction, AtMost}
use Rattle.quantity.specs.declared.fraction.Fraction.{Fraction}
use Rattle.quantity.proofs.Fractions.{of_case}
use Rattle.water.specs.Table.{Table}
use Rattle.water.specs.Pair.{at_place}
use Rattle.water.specs.Interpolation.{enthalpy_at}
use Rattle.water.specs.Heat.{exact_heat, pair_heat}
use Rattle.water.specs.Theorems.{TableBounds}
use Rattle.water.proofs.Properties.{enthalpy_grows, volume_lies, volume_above_zero}

-- it is a fraction,
pub heat_is_fraction : (w : Table) → TableBounds w → (u : ℕ) (warm cold measured : Temperature) → IsFraction (exact_heat w u warm cold measured)
unfolding exact_heat
heat_is_fraction w k u warm cold measured = volume_above_zero w k measured

-- nothing where there is no volume,
pub no_volume_no_heat : (w : Table) (warm cold measured : Temperature) → (exact_heat w 0 warm cold measured).numerator ≡ 0
unfolding exact_heat
no_volume_no_heat w warm cold measured = omega arith

-- and at least 2000 mJ where there is one, at a difference of at least 1 K
pub at_least_2000 :
    (w : Table) → TableBounds w → (u : ℕ) (warm cold measured : Temperature) →
    0 < u → cold.0 + 100 ≤ warm.0 → warm.0 ≤ 100 * w.last → AtMost (whole 2000) (exact_heat w u warm cold measured)
unfolding exact_heat
at_least_2000 w k u warm cold measured p q r =
    let d : 410000000 ≤ enthalpy_at w warm - enthalpy_at w cold = omega (arith, enthalpy_grows w k warm cold q r) in
    omega (arith, mul-le-mul p d, volume_lies w k measured)

-- what holds of the exact heat in the order of the two temperatures holds of that of a pair
pub of_either_order :
    (P : Fraction → Type 0) (w : Table) (u : ℕ) (ts tr : Temperature) (place : ℕ) →
    (is_colder ts tr ≡ true → P (exact_heat w u tr ts (at_place place ts tr))) →
    (is_colder ts tr ≡ false → P (exact_heat w u ts tr (at_place place ts tr))) →
    P (pair_heat w u ts tr place)
unfolding pair_heat
of_either_order P w u ts tr place exchanged as-it-is = of_case P (is_colder ts tr) _ _ exchanged as-it-is
