-- Exact fractions. A fraction is two whole numbers, a numerator over a denominator that is not 0. Exact heats, the registers' exact sums and error
-- limits are fractions, so that nothing of them is rounded. The numbers are of any size here; the struct `Fraction` of the code holds those of 64
-- bits. Nothing in this file reduces a fraction: `reduced` of specs/Divisors.antt does. docs/OPERATIONS.md, "The registers' bounds", has the sum
-- and the order.
use Rattle.std.specs.Prelude.{◌≡◌, ℕ, ◌+◌, ◌*◌, ◌/◌, ◌≤◌, ◌<◌, Bool, cond, leb}
use Rattle.quantity.specs.declared.fraction.Fraction.{Fraction}

infix 60 ◌over◌
-- n over d is n/d. Any two numbers can be written so, also with d = 0, where they have no value.
abbrev pub ◌over◌ : ℕ → ℕ → Fraction
n over d = record { numerator = n; denominator = d }

-- A whole number as a fraction: over 1.
abbrev pub whole : ℕ → Fraction
whole n = n over 1

-- The two numbers have a value: the denominator is above 0.
abbrev pub IsFraction : Fraction → Type 0
IsFraction x = 0 < x.denominator

-- The sum: a/b and c/d make (a×d + c×b)/(b×d).
unfoldable pub plus : Fraction → Fraction → Fraction
plus x y = (x.numerator * y.denominator + y.numerator * x.denominator) over (x.denominator * y.denominator)

-- The product: a/b and c/d make (a×c)/(b×d).
unfoldable pub times : Fraction → Fraction → Fraction
times x y = (x.numerator * y.numerator) over (x.denominator * y.denominator)

-- The order: a/b is not above c/d where a×d is not above c×b. As a statement ..
abbrev pub AtMost : Fraction → Fraction → Type 0
AtMost x y = x.numerator * y.denominator ≤ y.numerator * x.denominator

-- .. and as a test.
abbrev pub is_at_most : Fraction → Fraction → Bool
is_at_most x y = leb (x.numerator * y.denominator) (y.numerator * x.denominator)

-- The smaller of two fractions.
unfoldable pub smaller : Fraction → Fraction → Fraction
smaller x y = cond (is_at_most x y) x y

-- Two fractions have the same value, though their numbers may differ, as those of 1/2 and 2/4 do.
abbrev pub Same : Fraction → Fraction → Type 0
Same x y = x.numerator * y.denominator ≡ y.numerator * x.denominator

-- r is a fraction, and has the value of x.
pub record Represents (r x : Fraction) : Type 0 where
  pub is_fraction : IsFraction r
  pub same : Same r x

-- A fraction rounded down: the largest whole number that is not above it.
abbrev pub floored : Fraction → ℕ
floored x = x.numerator / x.denominator
