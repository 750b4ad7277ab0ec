-- How a number is written: in decimal, with at most 18 digits, and with no 0 in front of others (docs/FORMAT.md, "Bytes, lines and numbers"). First
-- the text of a number, then which texts are numbers, and of what value.
use Rattle.std.specs.Prelude.{ℕ, zero, suc, ◌+◌, ◌-◌, ◌*◌, ◌/◌, ◌%◌, ◌^◌, Bool, true, not, cond, ◌&&◌, ◌||◌, List, [], ◌∷◌, ◌++◌, ltb, leb, eqb, length, get_or}
use Rattle.std.specs.List.{list_any}
use Rattle.lines.specs.Bytes.{digit_zero, digit_nine}

-- the digits of n as bytes, the highest place first, of which at most f stand before the last one
unfoldable pub decimal_by : ℕ → ℕ → List ℕ
decimal_by zero n = (digit_zero + n % 10) ∷ []
decimal_by (suc f) n = cond (ltb n 10) ((digit_zero + n) ∷ []) (decimal_by f (n / 10) ++ ((digit_zero + n % 10) ∷ []))

-- The text of n, with no 0 in front. A number n never has more than n digits before its last one, so that none is cut off.
unfoldable pub decimal : ℕ → List ℕ
decimal n = decimal_by n n

-- How many digits a number of 64 bits has at most; the code holds no larger number. A printed line may have so many, a line of a file may not.
abbrev pub most_digits64 : ℕ
most_digits64 = 20

-- A byte is one of the ten digits.
unfoldable pub is_digit : ℕ → Bool
is_digit b = leb digit_zero b && leb b digit_nine

-- All bytes are digits.
unfoldable pub are_digits : List ℕ → Bool
are_digits [] = true
are_digits (b ∷ bs) = is_digit b && are_digits bs

-- The number that digits say: each times the power of ten of its place, added up. It is of use only where all bytes are digits; of a smaller byte
-- the subtraction stops at 0.
unfoldable pub value_of : List ℕ → ℕ
value_of [] = 0
value_of (b ∷ bs) = (b - digit_zero) * 10 ^ length bs + value_of bs

-- the most digits of a number in a file
abbrev pub most_digits : ℕ
most_digits = 18

-- Whether a text is a number of a file: nothing but digits, at least one of them and not too many, the first being a 0 only where it is the only one.
unfoldable pub is_number : List ℕ → Bool
is_number bs = are_digits bs && (leb 1 (length bs) && (leb (length bs) most_digits && (eqb (length bs) 1 || not (eqb (get_or bs 0 0) digit_zero))))

-- whether one of the numbers is too large to be written in a file: 10^18 or more, and so of over 18 digits
abbrev pub some_long : List ℕ → Bool
some_long ns = list_any (leb (10 ^ most_digits)) ns

-- whether one of the numbers is not 0
abbrev pub some_nonzero : List ℕ → Bool
some_nonzero ns = list_any (leb 1) ns
