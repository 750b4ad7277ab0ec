-- Reading one line (docs/OPERATIONS.md, "One line: reading and writing"). The reader is told which line is due (`MayCome`), and looks only at the
-- line at the front of the bytes. It answers that line, its edition and how many bytes it takes (`Front`), or the refusal of the first condition that
-- holds: 60, 61, 62, and for a card its own, 10 to 18.
use Rattle.std.specs.Prelude.{ℕ, zero, suc, ◌+◌, Bool, true, false, not, cond, ◌&&◌, ◌||◌, List, [], ◌∷◌, ◌++◌, map, eqb, length, get_or, take, drop, Result, Ok, Err}
use Rattle.std.specs.Result.{result_and}
use Rattle.quantity.specs.Refusals.{row, first_of}
use Rattle.quantity.specs.declared.refusal.Row.{Row}
use Rattle.quantity.specs.declared.refusal.Refusal.{Refusal}
use Rattle.quantity.specs.declared.refusal.Refusal.TheVariants as R
use Rattle.meter.specs.Edition.{last_edition, is_other_edition}
use Rattle.lines.specs.Bytes.{line_feed, comma}
use Rattle.lines.specs.Number.{is_number, value_of}
use Rattle.lines.specs.Line.{LineKind, opening, card, sample, totals, first_field, opening_length, in_edition, opening_in, count_of, line_of, bytes_of, content_rows}
use Rattle.lines.specs.declared.line.Layout.{Layout}
use Rattle.lines.specs.declared.line.EditionLine.{EditionLine}
use Rattle.lines.specs.declared.line.MayCome.{MayCome}
use Rattle.lines.specs.declared.line.MayCome.TheVariants as M
use Rattle.lines.specs.declared.line.Front.{Front}

-- whether two texts are the same, byte for byte
unfoldable pub same_bytes : List ℕ → List ℕ → Bool
same_bytes [] [] = true
same_bytes [] (y ∷ ys) = false
same_bytes (x ∷ xs) [] = false
same_bytes (x ∷ xs) (y ∷ ys) = eqb x y && same_bytes xs ys

-- The bytes before the first line feed, which are the line's, or all bytes where there is no line feed.
unfoldable pub until_end : List ℕ → List ℕ
until_end [] = []
until_end (b ∷ bs) = cond (eqb b line_feed) [] (b ∷ until_end bs)

-- There is a line feed.
unfoldable pub is_ended : List ℕ → Bool
is_ended [] = false
is_ended (b ∷ bs) = eqb b line_feed || is_ended bs

-- How many bytes the line takes, its line feed among them. It is of use only where there is one.
unfoldable pub size_of : List ℕ → ℕ
size_of bs = length (until_end bs) + 1

-- a byte in front of the first of some fields
unfoldable pub with_first : ℕ → List (List ℕ) → List (List ℕ)
with_first b [] = (b ∷ []) ∷ []
with_first b (f ∷ fs) = (b ∷ f) ∷ fs

-- The fields of a text: what stands before, between and behind its commas. So there is one field more than commas, and a field may be empty.
unfoldable pub split : List ℕ → List (List ℕ)
split [] = [] ∷ []
split (b ∷ bs) = cond (eqb b comma) ([] ∷ split bs) (with_first b (split bs))

-- The fields of the line at the front of the bytes.
unfoldable pub fields_in : List ℕ → List (List ℕ)
fields_in bs = split (until_end bs)

-- Its first field.
abbrev pub first_in : List ℕ → List ℕ
first_in bs = get_or (fields_in bs) 0 []

-- The fields after the first.
abbrev pub others_in : List ℕ → List (List ℕ)
others_in bs = drop 1 (fields_in bs)

-- whether all of some fields are numbers
unfoldable pub are_numbers : List (List ℕ) → Bool
are_numbers [] = true
are_numbers (f ∷ fs) = is_number f && are_numbers fs

-- what the fields after the first say, which is of use only where all of them are numbers
abbrev pub numbers_in : List ℕ → List ℕ
numbers_in bs = map value_of (others_in bs)

-- The condition of 61, where a line is due whose first field is first and which has count fields after it: no line feed stands there, or the first
-- field is another one, or the others are not so many.
unfoldable pub is_misshapen : List ℕ → ℕ → List ℕ → Bool
is_misshapen first count bs = not (is_ended bs) || (not (same_bytes (first_in bs) first) || not (eqb (length (others_in bs)) count))

-- 61 by the shape, then 62 if one of the fields after the first is no number
unfoldable pub shape_rows : List ℕ → ℕ → List ℕ → List Row
shape_rows first count bs = row R.Shape (is_misshapen first count bs) ∷ row R.Number (not (are_numbers (others_in bs))) ∷ []

-- The edition whose opening of a layout the bytes begin with, looked for from e down; 0, which is no edition, where they begin with none.
unfoldable pub opened_up_to : Layout → ℕ → List ℕ → ℕ
opened_up_to layout zero bs = 0
opened_up_to layout (suc e) bs = cond (same_bytes (take opening_length bs) (bytes_of (opening_in layout (suc e)))) (suc e) (opened_up_to layout e bs)

-- the edition of the line at the front: that of an opening is found in it, that of any other line is told
unfoldable pub edition_in : MayCome → List ℕ → ℕ
edition_in (M.Opening layout) bs = opened_up_to layout last_edition bs
edition_in (M.Card e) bs = e
edition_in (M.SampleOrEnd e) bs = e

-- The kind of line that is due. Where a sample and the totals both may stand, it is line E if the first field is E, and otherwise a line S; so a
-- first field that is neither is refused with 61, as no S.
unfoldable pub due_kind : MayCome → List ℕ → LineKind
due_kind (M.Opening layout) bs = opening layout
due_kind (M.Card e) bs = card
due_kind (M.SampleOrEnd e) bs = cond (same_bytes (first_in bs) (first_field totals)) totals sample

-- the line that the bytes say, which is of use only where no condition refuses them
unfoldable pub line_in : MayCome → List ℕ → EditionLine
line_in may bs = in_edition (edition_in may bs) (line_of (due_kind may bs) (numbers_in bs))

-- the conditions where a line of a kind is due: 61, 62, then those on what it says
unfoldable pub line_rows : ℕ → LineKind → List ℕ → List Row
line_rows e k bs = shape_rows (first_field k) (count_of e k) bs ++ content_rows (line_of k (numbers_in bs))

-- The conditions after 60. An opening has none: where its edition is found, all of its bytes are.
unfoldable pub later_rows : MayCome → List ℕ → List Row
later_rows (M.Opening layout) bs = []
later_rows (M.Card e) bs = line_rows e (due_kind (M.Card e) bs) bs
later_rows (M.SampleOrEnd e) bs = line_rows e (due_kind (M.SampleOrEnd e) bs) bs

-- All conditions in order. The first, 60, holds where the opening is due and the bytes begin with none, and where what is told is no edition.
unfoldable pub read_rows : MayCome → List ℕ → List Row
read_rows may bs = row R.Edition (is_other_edition (edition_in may bs)) ∷ later_rows may bs

-- the answer of a line and of how many bytes it takes
abbrev pub front_of : EditionLine → ℕ → Result Front Refusal
front_of line n = Ok (record { line = line; size = n })

-- that answer, or the refusal where there is one
abbrev pub answer_of : EditionLine → ℕ → Result Unit Refusal → Result Front Refusal
answer_of line n o = result_and o (front_of line n)

-- What the reader answers.
unfoldable pub read_of : MayCome → List ℕ → Result Front Refusal
read_of may bs = answer_of (line_in may bs) (size_of bs) (first_of (read_rows may bs))

-- The bytes that it hands back with the answer: those behind the line, and none after a refusal.
unfoldable pub rest_of : List ℕ → Result Front Refusal → List ℕ
rest_of bs (Ok front) = drop front.size bs
rest_of bs (Err r) = []
