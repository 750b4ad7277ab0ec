-- The largest number that passes a test. Two rules ask for one: a reading's temperature is the largest at which the sensor's resistance is not
-- above the reading, and lowest terms need the largest number that divides both numbers of a fraction.
use Rattle.std.specs.Prelude.{ℕ, zero, suc, Bool, true, false}

-- The largest of the numbers 0 to top that passes. If none passes it is 0, so that it means something only where one does.
unfoldable pub largest : (ℕ → Bool) → ℕ → ℕ
largest test zero = zero
largest test (suc t) = elim (test (suc t)) [ true ↦ suc t | false ↦ largest test t ]
