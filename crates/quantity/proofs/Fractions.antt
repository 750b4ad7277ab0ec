-- Laws of exact fractions.
-- Assumes nothing.
use mathlib.Core.Path.{◌≡◌, refl, ap}
use mathlib.Core.Bool.{Bool, true, false, cond}
use Prim.Native.Nat.{ℕ, ◌*◌, ◌≤◌}
use native.Mathlib.Nat.{le_refl, mul-pos, mul-le-mul_right, le_of_mul-le-mul_right}
use native.Mathlib.Omega.{arith}
use borrow.Author.Tests.{leb-true}
use Rattle.quantity.specs.Fractions.{whole, IsFraction, plus, times, AtMost, is_at_most, smaller, Represents}
use Rattle.quantity.specs.declared.fraction.Fraction.{Fraction}

-- a sum and a product of fractions are fractions
pub of_plus : (x y : Fraction) → IsFraction x → IsFraction y → IsFraction (plus x y)
unfolding plus
of_plus x y p q = mul-pos p q

pub of_times : (x y : Fraction) → IsFraction x → IsFraction y → IsFraction (times x y)
unfolding times
of_times x y p q = mul-pos p q

-- what holds of each in its own case holds of either
pub of_case : (P : Fraction → Type 0) (b : Bool) (x y : Fraction) → (b ≡ true → P x) → (b ≡ false → P y) → P (cond b x y)
of_case P true x y p q = p refl
of_case P false x y p q = q refl

-- and so does what holds of both, and holds of the smaller
pub of_either : (P : Fraction → Type 0) (b : Bool) (x y : Fraction) → P x → P y → P (cond b x y)
of_either P b x y p q = of_case P b x y (λ e. p) (λ e. q)

pub of_smaller : (P : Fraction → Type 0) (x y : Fraction) → P x → P y → P (smaller x y)
unfolding smaller
of_smaller P x y p q = of_either P (is_at_most x y) x y p q

-- the order
pub transitive : (x y z : Fraction) → IsFraction y → AtMost x y → AtMost y z → AtMost x z
transitive x y z p h g =
    let n = x.numerator * z.denominator in
    let m = z.numerator * x.denominator in
    let l : n * y.denominator ≤ m * y.denominator = omega (arith, mul-le-mul_right z.denominator h, mul-le-mul_right x.denominator g) in
    le_of_mul-le-mul_right l p

-- sums keep it
pub sums : (x y u v : Fraction) → AtMost x u → AtMost y v → AtMost (plus x y) (plus u v)
unfolding plus
sums x y u v h g =
    omega (
      arith,
      mul-le-mul_right (y.denominator * v.denominator) h,
      mul-le-mul_right (x.denominator * u.denominator) g,
    )

-- the smaller of two is at most the second
pub at_most_second : (x y : Fraction) → AtMost (smaller x y) y
unfolding smaller
at_most_second x y = go (is_at_most x y) refl
  where
    go : (b : Bool) → is_at_most x y ≡ b → AtMost (cond b x y) y
    go true e = leb-true _ _ e
    go false e = le_refl _

-- a fraction twice
pub twice : (x : Fraction) → AtMost x (times (whole 2) x)
unfolding times
twice x = omega arith

pub doubled : (r x : Fraction) → Represents r x → Represents (times (whole 2) r) (times (whole 2) x)
unfolding times
doubled r x h = record { is_fraction = omega (arith, h.is_fraction); same = omega (arith, ap (λ (y : ℕ). 2 * y) h.same) }
