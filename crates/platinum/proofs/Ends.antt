-- The end of the range that an answer misses: it is said exactly, and its refusal is that of the rows of the two ends.
-- Assumes nothing.
use mathlib.Core.Path.{◌≡◌, refl, sym, ap, subst}
use mathlib.Core.Bool.{Bool, true, false, cond}
use Prim.Native.Nat.{ℕ, ◌*◌, ◌≤◌}
use native.Mathlib.Nat.{mul-le-mul_left}
use native.Mathlib.Omega.{arith}
use lib.Dec.{ltb}
use borrow.Author.Tests.{ltb-true, ltb-false}
use Rattle.std.specs.Prelude.{Result, Ok, Err}
use Rattle.quantity.specs.Refusals.{number_of, first_of, first_number}
use Rattle.quantity.specs.Range.{refusal_at_end}
use Rattle.quantity.specs.Units.{last_hundredth}
use Rattle.quantity.specs.declared.units.Temperature.{Temperature}
use Rattle.quantity.specs.declared.range.Role.{Role}
use Rattle.quantity.specs.declared.range.End.{End}
use Rattle.quantity.specs.declared.range.End.TheVariants.{Low, High}
use Rattle.platinum.specs.Sensor.{IsResistance, sensor_of}
use Rattle.platinum.specs.Temperature.{W, scaled, of_resistance, of_kind, temperature_of}
use Rattle.platinum.specs.Refusal.{end_rows}
use Rattle.platinum.specs.Theorems.{UnmeasuredExactly}
use Rattle.platinum.specs.declared.sensor.Sensor.{Sensor}
use Rattle.platinum.specs.declared.reading.Unmeasured.{Unmeasured}
use Rattle.platinum.specs.declared.reading.Unmeasured.TheVariants.{Outside}
use Rattle.platinum.proofs.Growth.{grows_or_stays}
use Rattle.platinum.proofs.SensorKinds.{Named, named}

-- the refusal of a missed end is that of the first row that applies
pub outside_refusal : (p : Role) (e : End) → Err (refusal_at_end p e) ≡ first_of (end_rows p (Err (Outside e)))
unfolding first_of
outside_refusal p Low = refl
outside_refusal p High = refl

-- and its number is theirs
pub outside_number : (p : Role) (e : End) → number_of (refusal_at_end p e) ≡ first_number (end_rows p (Err (Outside e)))
unfolding first_number
outside_number p Low = refl
outside_number p High = refl

-- the two ends lie apart, so that no reading misses both
apart : (n : ℕ) → n * W 0 ≤ n * W last_hundredth
apart n = mul-le-mul_left n (grows_or_stays 0 last_hundredth (omega arith) (omega arith))

-- of a sensor kind, by the two tests of `of_resistance`
by_tests : (n r : ℕ) (k : IsResistance n) (t : Temperature) (low high : Bool) → ltb (scaled r) (n * W 0) ≡ low →
    ltb (n * W last_hundredth) (scaled r) ≡ high → UnmeasuredExactly n r (cond low (Err (Outside Low)) (cond high (Err (Outside High)) (Ok t)))
by_tests n r k t true high p q =
    let below = ltb-true (scaled r) (n * W 0) p in
    record {
      no_sensor = (λ e. cc, λ h. absurd (h k));
      low = (λ e. (k, below), λ h. refl);
      high = (λ e. cc, λ h. absurd (omega (arith, h.1, apart n)));
    }
by_tests n r k t false true p q =
    let above = ltb-true (n * W last_hundredth) (scaled r) q in
    record {
      no_sensor = (λ e. cc, λ h. absurd (h k));
      low = (λ e. cc, λ h. absurd (omega (arith, h.1, apart n)));
      high = (λ e. (k, above), λ h. refl);
    }
by_tests n r k t false false p q =
    let from = ltb-false (scaled r) (n * W 0) p in
    let to = ltb-false (n * W last_hundredth) (scaled r) q in
    record {
      no_sensor = (λ e. cc, λ h. absurd (h k));
      low = (λ e. cc, λ h. absurd (omega (arith, h.1)));
      high = (λ e. cc, λ h. absurd (omega (arith, h.1)));
    }

of_kind_lem : (n r : ℕ) → IsResistance n → UnmeasuredExactly n r (of_resistance n r)
unfolding of_resistance
of_kind_lem n r k = by_tests n r k _ _ _ refl refl

by_name : (n r : ℕ) (k : Result Sensor Unmeasured) → Named k n → UnmeasuredExactly n r (of_kind k r)
by_name n r (Ok s) h = subst (λ (x : ℕ). UnmeasuredExactly n r (of_resistance x r)) (sym h.0) (of_kind_lem n r h.1)
by_name n r (Err u) h = record {
  no_sensor = (λ e. h.1, λ g. ap (λ (x : Unmeasured). Err x) h.0);
  low = (λ e. cc (h.0), λ g. absurd (h.1 g.0));
  high = (λ e. cc (h.0), λ g. absurd (h.1 g.0));
}

pub unmeasured_exactly : (n r : ℕ) (m : Result Temperature Unmeasured) → m ≡ temperature_of n r → UnmeasuredExactly n r m
unfolding temperature_of
unmeasured_exactly n r m e = subst (UnmeasuredExactly n r) (sym e) (by_name n r (sensor_of n) (named n))
