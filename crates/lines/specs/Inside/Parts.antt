-- What the functions inside reader and writer answer: one number, the numbers of a line, a text put at the front of a part of the buffer. They work
-- on parts of the bytes, and so on what stands at the front of a part.
use Rattle.std.specs.Prelude.{◌≡◌, ℕ, zero, suc, ◌+◌, ◌/◌, ◌%◌, cond, List, [], ◌∷◌, ◌++◌, Option, Some, None, Result, Ok, Err, eqb, length, take, drop}
use Rattle.std.specs.Option.{unwrap_or}
use Rattle.std.specs.Result.{result_and}
use Rattle.quantity.specs.Refusals.{first_of}
use Rattle.quantity.specs.declared.refusal.Refusal.{Refusal}
use Rattle.lines.specs.Bytes.{comma, digit_zero}
use Rattle.lines.specs.Number.{is_digit, most_digits, is_number, value_of}
use Rattle.lines.specs.Line.{card_line_fields, totals_fields, LineKind, kind_of, count_of, all_numbers_of, in_edition, content_rows, line_of}
use Rattle.lines.specs.Reading.{shape_rows, others_in, numbers_in, size_of, answer_of}
use Rattle.lines.specs.declared.line.EditionLine.{EditionLine}
use Rattle.lines.specs.declared.number.Number.{Number}
use Rattle.lines.specs.declared.line.Front.{Front}
use Rattle.lines.specs.declared.line.Line.{Line}

-- the digits at the front of a text
unfoldable pub digits_at : List ℕ → List ℕ
digits_at [] = []
digits_at (b ∷ bs) = cond (is_digit b) (b ∷ digits_at bs) []

-- the answer of a number v that takes n bytes
abbrev pub found : ℕ → ℕ → Option Number
found v n = Some (record { value = v; size = n })

-- the number that the digits at the front of a text are, and how many they are; none where those digits are no number
unfoldable pub number_at : List ℕ → Option Number
number_at bs = cond (is_number (digits_at bs)) (found (value_of (digits_at bs)) (length (digits_at bs))) None

-- A comma at the front of a text and the number behind it: the comma is one byte more.
unfoldable pub one_more : Option Number → Option Number
one_more (Some x) = found x.value (x.size + 1)
one_more None = None

-- The number behind the comma at the front of the bytes, with the size of both; none where no comma stands there or no number follows it.
unfoldable pub field_at : List ℕ → Option Number
field_at [] = None
field_at (b ∷ bs) = cond (eqb b comma) (one_more (number_at bs)) None

-- What follows a line's letter, read: where neither 61 nor 62 refuses it, the numbers and how many bytes the line takes, its letter among them; and
-- otherwise the refusal. The letter itself has been read, so that the first field is empty here.
pub data NumbersRead (after out : List ℕ) : Result ℕ Refusal → Type 0 where
  all_read : first_of (shape_rows [] (length out) after) ≡ Ok tt → out ≡ numbers_in after → NumbersRead after out (Ok (size_of after + 1))
  line_refused : (r : Refusal) → first_of (shape_rows [] (length out) after) ≡ Err r → NumbersRead after out (Err r)

-- What the reader of numbers answers of a line of so many numbers, or of any count, by what follows its letter.
unfoldable pub numbers_after : Option ℕ → List ℕ → Result (List ℕ) Refusal
numbers_after count after = result_and (first_of (shape_rows [] (unwrap_or count (length (others_in after))) after)) (Ok (numbers_in after))

-- what the reader answers of a line of a kind, by what follows its letter
unfoldable pub after_letter : ℕ → LineKind → List ℕ → Result Front Refusal
after_letter e k after = answer_of (in_edition e line) (size_of after + 1) (first_of (shape_rows [] (count_of e k) after ++ content_rows line))
  where
    line : Line
    line = line_of k (numbers_in after)

-- how many digits are looked at: one more than a number may have, to see that it is too long
abbrev pub looked_at : ℕ
looked_at = most_digits + 1

-- the digits at the front of a text, as far as they are looked at, are n and say value
pub record Digits (bs : List ℕ) (value n : ℕ) : Type 0 where
  pub counted : n ≡ length (take looked_at (digits_at bs))
  pub says : value ≡ value_of (take looked_at (digits_at bs))

-- the last k digits of n, with zeros in front where n has fewer
unfoldable pub last_digits : ℕ → ℕ → List ℕ
last_digits zero n = []
last_digits (suc k) n = last_digits k (n / 10) ++ ((digit_zero + n % 10) ∷ [])

-- the most numbers of any line: the card's line has them
abbrev pub most_numbers : ℕ
most_numbers = card_line_fields

-- The numbers that a line can have, in two parts: those that stand on it, which come first, and those that its edition lacks.
pub record Parted : Type 0 where
  pub shown : List ℕ
  pub lacked : List ℕ

-- Numbers parted behind the first n.
abbrev pub parted_at : ℕ → List ℕ → Parted
parted_at n ns = record { shown = take n ns; lacked = drop n ns }

-- The numbers of a line, parted by how many its kind has in its edition.
abbrev pub numbers_parted : EditionLine → Parted
numbers_parted line = parted_at (count_of line.edition (kind_of line.line)) (all_numbers_of line)

-- the most numbers of line E in any edition
abbrev pub most_later : ℕ
most_later = totals_fields
