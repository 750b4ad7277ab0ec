-- What reader and writer have to do with each other, and what a refusal of the reader says. A line that was written is read back; one that was read
-- is written as the same bytes; and each refusal has one cause. The theorems of specs/Theorems.antt say so of all lines and bytes.
use Rattle.std.specs.Prelude.{◌≡◌, Bool, true, false, ◌&&◌, List, ◌++◌, ◌⊎◌, ℕ, ◌-◌, length, drop, Err}
use Rattle.quantity.specs.Refusals.{first_of}
use Rattle.quantity.specs.declared.refusal.Refusal.{Refusal}
use Rattle.quantity.specs.declared.refusal.Refusal.TheVariants as R
use Rattle.meter.specs.Edition.{is_other_edition}
use Rattle.meter.specs.Card.{card_rows}
use Rattle.lines.specs.Line.{LineKind, card, sample, totals, first_field, count_of, card_of, bytes_of}
use Rattle.lines.specs.Reading.{others_in, numbers_in, are_numbers, is_misshapen, edition_in, front_of, read_of, rest_of}
use Rattle.lines.specs.Writing.{written_of, Writable}
use Rattle.lines.specs.declared.line.Layout.{Layout}
use Rattle.lines.specs.declared.line.Line.{Line}
use Rattle.lines.specs.declared.line.Line.TheVariants as L
use Rattle.lines.specs.declared.line.EditionLine.{EditionLine}
use Rattle.lines.specs.declared.line.MayCome.{MayCome}
use Rattle.lines.specs.declared.line.MayCome.TheVariants as M

-- what the reader is told where a line of an edition is due
unfoldable pub told_in : ℕ → Line → MayCome
told_in e (L.Opening layout) = M.Opening layout
told_in e (L.Card c) = M.Card e
told_in e (L.Sample s) = M.SampleOrEnd e
told_in e (L.End t) = M.SampleOrEnd e

-- The same, of a line with its edition.
abbrev pub told_of : EditionLine → MayCome
told_of l = told_in l.edition l.line

-- Written, then read. The buffer is as the writer left it, with the line from the position at up to next. A reader of the bytes from at on, told that
-- this line is due, answers the line with its edition and size, and hands back the bytes from next on.
pub record ReadsBack (buf : List ℕ) (at : ℕ) (line : EditionLine) (next : ℕ) : Type 0 where
  pub answer : read_of (told_of line) (drop at buf) ≡ front_of line (next - at)
  pub rest : rest_of (drop at buf) (read_of (told_of line) (drop at buf)) ≡ drop next buf

-- Read, then written. The reader answered the line and its size n. The line is of a kind that was due, and of the edition that was told; its bytes
-- are those that were read, n of them; and the writer can write it. It refuses it for the buffer's sake alone: with 67 or 66.
pub record WritesBack (may : MayCome) (bs : List ℕ) (line : EditionLine) (n : ℕ) : Type 0 where
  pub kind : told_of line ≡ may
  pub bytes : bytes_of line ++ rest_of bs (front_of line n) ≡ bs
  pub takes : n ≡ length (bytes_of line)
  pub writable : Writable line
  pub refused_only : (size at : ℕ) (r : Refusal) → written_of size at line ≡ Err r → (r ≡ R.PlaceBeyond) ⊎ (r ≡ R.Room)

-- whether the bytes begin with nothing that has the shape of a line of a kind in an edition
unfoldable pub is_no_line : ℕ → LineKind → List ℕ → Bool
is_no_line e k bs = is_misshapen (first_field k) (count_of e k) bs

-- Whether they begin with nothing of the shape of a line that is due: where a line S and line E both may stand, with neither. An opening has no such
-- condition, since its edition tells it.
abbrev pub is_misshapen_due : MayCome → List ℕ → Bool
is_misshapen_due (M.Opening layout) bs = false
is_misshapen_due (M.Card e) bs = is_no_line e card bs
is_misshapen_due (M.SampleOrEnd e) bs = is_no_line e sample bs && is_no_line e totals bs

-- The cause of a refusal: its own condition holds, and none before it. 60: what was told is no edition, or no edition's opening stands there. 61: no
-- line that is due has such a shape. 62: a field after the first is no number, in any line but an opening. 10 to 18: the card is not allowed
-- (77 cannot come: `NeverForPressure` of specs/Theorems.antt).
pub data Cause (bs : List ℕ) : MayCome → Refusal → Type 0 where
  other_edition : {may : MayCome} → is_other_edition (edition_in may bs) ≡ true → Cause bs may R.Edition
  misshapen : {may : MayCome} → is_other_edition (edition_in may bs) ≡ false → is_misshapen_due may bs ≡ true → Cause bs may R.Shape
  no_number : {may : MayCome} → ((layout : Layout) → may ≡ M.Opening layout → ⊥) → is_other_edition (edition_in may bs) ≡ false
      → is_misshapen_due may bs ≡ false → are_numbers (others_in bs) ≡ false → Cause bs may R.Number
  card_row : (e : ℕ) (r : Refusal) → is_other_edition e ≡ false → is_misshapen_due (M.Card e) bs ≡ false → are_numbers (others_in bs) ≡ true
      → first_of (card_rows (card_of (numbers_in bs))) ≡ Err r → Cause bs (M.Card e) r
