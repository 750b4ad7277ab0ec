-- How a sample keeps the bounds of a register, in numbers alone.
-- Assumes nothing.
use mathlib.Core.Path.{◌≡◌, refl, ap}
use mathlib.Core.Bool.{Bool, true, false, cond}
use Prim.Native.Nat.{ℕ, ◌+◌, ◌*◌, ◌/◌, ◌≤◌, ◌<◌}
use native.Mathlib.Nat.{mul-le-mul_right, le_of_mul-le-mul_right, mul-pos, div-mul-le_self, lt-div-mul-add}
use native.Mathlib.Omega.{arith}
use Rattle.quantity.specs.Fractions.{whole, IsFraction, plus, times, AtMost, floored}
use Rattle.quantity.specs.declared.fraction.Fraction.{Fraction}
use Rattle.meter.specs.Sum.{nothing, WithinBounds}

-- what is known of the exact heat of an accepted sample: with no volume it is 0, and with one it is at least 2000 mJ
pub record HeatBounds (counts : Bool) (h : Fraction) : Type 0 where
  pub is_fraction : IsFraction h
  pub none : counts ≡ false → h.numerator ≡ 0
  pub least : counts ≡ true → AtMost (whole 2000) h

pub start : WithinBounds 0 0 nothing
unfolding plus times
start = omega arith

-- the bounds, once the denominator is divided out of the last one
record InNumbers (r n : ℕ) (a : Fraction) : Type 0 where
  fraction : 0 < a.denominator
  not_above : r * a.denominator ≤ a.numerator
  near : a.numerator ≤ (r + n) * a.denominator
  in_proportion : 2000 * a.numerator ≤ 2000 * r * a.denominator + a.numerator

in_numbers : (r n : ℕ) (a : Fraction) → WithinBounds r n a → InNumbers r n a
unfolding plus times
in_numbers r n a b =
    let l : 2000 * a.numerator * a.denominator ≤ (2000 * r * a.denominator + a.numerator) * a.denominator = omega (arith, b.in_proportion) in
    record {
      fraction = b.is_fraction;
      not_above = omega (arith, b.not_above);
      near = omega (arith, b.near);
      in_proportion = le_of_mul-le-mul_right l b.is_fraction;
    }

from_numbers : (r n : ℕ) (a : Fraction) → InNumbers r n a → WithinBounds r n a
unfolding plus times
from_numbers r n a b = record {
  is_fraction = b.fraction;
  not_above = omega (arith, b.not_above);
  near = omega (arith, b.near);
  in_proportion = omega (arith, mul-le-mul_right a.denominator b.in_proportion);
}

kept : (r n : ℕ) (a h : Fraction) (counts : Bool) → HeatBounds counts h → InNumbers r n a →
    InNumbers (r + floored h) (cond counts (n + 1) n) (plus a h)
unfolding plus
kept r n a h false w b =
    let z = a.denominator in
    let d = h.denominator in
    omega (
      arith,
      mul-pos b.fraction w.is_fraction,
      ap (λ (x : ℕ). x * z) (w.none refl),
      mul-le-mul_right z (div-mul-le_self h.numerator d),
      mul-le-mul_right d b.not_above,
      mul-le-mul_right d b.near,
      mul-le-mul_right d b.in_proportion,
    )
kept r n a h true w b =
    let z = a.denominator in
    let d = h.denominator in
    let high : h.numerator ≤ h.numerator / d * d + d = omega (arith, lt-div-mul-add {a = h.numerator} w.is_fraction) in
    omega (
      arith,
      mul-pos b.fraction w.is_fraction,
      mul-le-mul_right z (div-mul-le_self h.numerator d),
      mul-le-mul_right z high,
      mul-le-mul_right z (w.least refl),
      mul-le-mul_right d b.not_above,
      mul-le-mul_right d b.near,
      mul-le-mul_right d b.in_proportion,
    )

-- such a heat, floored into the register and added to the sum, keeps the bounds
pub keep : (r n : ℕ) (a h : Fraction) (counts : Bool) → HeatBounds counts h → WithinBounds r n a →
    WithinBounds (r + floored h) (cond counts (n + 1) n) (plus a h)
keep r n a h counts w b = from_numbers _ _ (plus a h) (kept r n a h counts w (in_numbers r n a b))
