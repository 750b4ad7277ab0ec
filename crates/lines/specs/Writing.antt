-- Writing one line (docs/OPERATIONS.md, "One line: reading and writing"). A line is put at a position of a lent buffer; the answer is the position
-- behind it, and every other byte stays. Or the first condition that holds refuses the line, and all bytes stay: 67, 60, for a card its own, 10 to
-- 18 and 77, and then 78, and last 62 and 66. What 67 and 66 mean, and what the buffer holds afterwards, are told for any text in Putting of the
-- crate buffer.
use Rattle.std.specs.Prelude.{ℕ, ◌||◌, List, [], ◌∷◌, ◌++◌, length, Result}
use Rattle.quantity.specs.Refusals.{row}
use Rattle.quantity.specs.declared.refusal.Row.{Row}
use Rattle.quantity.specs.declared.refusal.Refusal.{Refusal}
use Rattle.quantity.specs.declared.refusal.Refusal.TheVariants as R
use Rattle.buffer.specs.Putting.{put_rows, put_of, CanBePut}
use Rattle.meter.specs.Edition.{is_other_edition}
use Rattle.lines.specs.Number.{some_long, some_nonzero}
use Rattle.lines.specs.Line.{numbers_of, lacked_of, bytes_of, content_rows, has_other_pressure}
use Rattle.lines.specs.declared.line.EditionLine.{EditionLine}

-- What refuses a line wherever it is to be written, in order. 60: its edition does not exist. Then what refuses a card. 78: its card has another
-- pressure than every file's, which would be lost. 62: a number on the line has over 18 digits, or a total that is not on it, since the edition lacks
-- it, is not 0 and would be lost.
unfoldable pub own_rows : EditionLine → List Row
own_rows line =
    row R.Edition (is_other_edition line.edition) ∷
    (content_rows line.line
    ++ (row R.FilePressure (has_other_pressure line.line) ∷ row R.Number (some_long (numbers_of line) || some_nonzero (lacked_of line)) ∷ []))

-- All conditions in order, for a buffer of size bytes.
abbrev pub write_rows : ℕ → ℕ → EditionLine → List Row
write_rows size at line = put_rows size at (own_rows line) (length (bytes_of line))

-- What the writer answers: the position behind the line, or the refusal of the first condition that holds.
abbrev pub written_of : ℕ → ℕ → EditionLine → Result ℕ Refusal
written_of size at line = put_of size at (own_rows line) (bytes_of line)

-- A line that the writer can write, in some buffer at some position.
abbrev pub Writable : EditionLine → Type 0
Writable line = CanBePut (own_rows line) (bytes_of line)
