-- Lowest terms of a fraction. An error limit is answered in them, so that each limit has one form only: whatever divides its numerator and its
-- denominator is 1. Both numbers are divided by their largest common divisor. docs/OPERATIONS.md, "Error limits, comparison and verdict".
use Rattle.std.specs.Prelude.{◌≡◌, ℕ, ◌/◌, ◌%◌, max, Bool, ◌&&◌, eqb}
use Rattle.std.specs.Int.{◌∣◌}
use Rattle.quantity.specs.Fractions.{◌over◌}
use Rattle.quantity.specs.Largest.{largest}
use Rattle.quantity.specs.declared.fraction.Fraction.{Fraction}

-- k divides a and b: no remainder is left of either.
unfoldable pub divides_both : ℕ → ℕ → ℕ → Bool
divides_both a b k = eqb (a % k) 0 && eqb (b % k) 0

-- The largest number that divides both. It is 0 for two zeros, which every number divides.
unfoldable pub largest_common_divisor : ℕ → ℕ → ℕ
largest_common_divisor a b = largest (divides_both a b) (max a b)

-- What makes it so, said without a search: it divides both, and every number that divides both divides it. No other number has these two
-- properties.
pub record IsLargestCommonDivisor (g a b : ℕ) : Type 0 where
  pub first : g ∣ a
  pub second : g ∣ b
  pub every : (k : ℕ) → k ∣ a → k ∣ b → k ∣ g

-- A fraction is in lowest terms: only 1 divides both its numbers.
abbrev pub InLowestTerms : Fraction → Type 0
InLowestTerms x = (k : ℕ) → k ∣ x.numerator → k ∣ x.denominator → k ≡ 1

-- A fraction in lowest terms: both numbers divided by their largest common divisor. Two zeros stay two zeros.
unfoldable pub reduced : Fraction → Fraction
reduced x =
    let g = largest_common_divisor x.numerator x.denominator in
    (x.numerator / g) over (x.denominator / g)
