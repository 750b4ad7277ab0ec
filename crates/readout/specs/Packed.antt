-- Packed decimal (BCD): two decimal digits in each byte, for any count of bytes. The lowest digit of a number stands first, and of the two in a byte the
-- lower one in bits 0 to 3.
use Rattle.std.specs.Prelude.{ℕ, zero, suc, ◌+◌, ◌*◌, ◌/◌, ◌%◌, ◌^◌, Bool, List, [], ◌∷◌, ltb}
use Rattle.std.specs.List.{list_any}

-- The digits that bytes hold, the lowest first: of each byte its low four bits, and then its high four.
unfoldable pub digits_in : List ℕ → List ℕ
digits_in [] = []
digits_in (b ∷ bs) = b % 16 ∷ b / 16 ∷ digits_in bs

-- Whether a digit is above nine: four bits may also hold 10 to 15.
abbrev pub some_above_nine : List ℕ → Bool
some_above_nine ds = list_any (ltb 9) ds

-- What digits add up to, where the first of them stands at a place: a digit d at place i counts d × 10^i.
unfoldable pub sum_from : ℕ → List ℕ → ℕ
sum_from place [] = 0
sum_from place (d ∷ ds) = d * 10 ^ place + sum_from (place + 1) ds

-- The number of digits: the first of them stands at place 0.
abbrev pub number_of_digits : List ℕ → ℕ
number_of_digits ds = sum_from 0 ds

-- n digits of a number x, where the first of them stands at a place: at place i stands the last digit of x / 10^i.
unfoldable pub digits_from : ℕ → ℕ → ℕ → List ℕ
digits_from place zero x = []
digits_from place (suc n) x = x / 10 ^ place % 10 ∷ digits_from (place + 1) n x

-- The n lowest digits of a number.
abbrev pub lowest_digits : ℕ → ℕ → List ℕ
lowest_digits n x = digits_from 0 n x

-- Digits put two into a byte, the lower one into bits 0 to 3. A last digit without another would be left out; whole bytes have none such.
unfoldable pub paired : List ℕ → List ℕ
paired [] = []
paired (d ∷ []) = []
paired (d ∷ e ∷ ds) = (d + 16 * e) ∷ paired ds

-- n bytes of a number: its 2 × n lowest digits.
unfoldable pub packed : ℕ → ℕ → List ℕ
packed n x = paired (lowest_digits (2 * n) x)

-- The number that bytes say.
abbrev pub unpacked : List ℕ → ℕ
unpacked bs = number_of_digits (digits_in bs)
