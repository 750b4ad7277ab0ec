-- The line that the audit program prints (docs/OPERATIONS.md, "The audit and the program"): for an accepted file the letter R and what the file ends
-- with, for a refused one the letter X, the refusal's number and the line of the file. Commas and line feed stand in it as in a file's lines.
use Rattle.std.specs.Prelude.{ℕ, ◌+◌, ◌*◌, List, [], ◌∷◌, length, replicate}
use Rattle.buffer.specs.Putting.{put_at}
use Rattle.lines.specs.Bytes.{letter_r, letter_x}
use Rattle.lines.specs.Number.{most_digits64}
use Rattle.lines.specs.Line.{text_of}
use Rattle.lines.specs.declared.report.OutputLine.{OutputLine}
use Rattle.lines.specs.declared.report.Report.{Report}
use Rattle.lines.specs.declared.report.Report.TheVariants as R

-- the text of either line
unfoldable pub report_text : Report → List ℕ
report_text (R.EndState serial accepted refused heat_register volume) = text_of (letter_r ∷ []) (serial ∷ accepted ∷ refused ∷ heat_register ∷ volume ∷ [])
report_text (R.Refused number line) = text_of (letter_x ∷ []) (number ∷ line ∷ [])

-- the most numbers of a printed line, those of R
abbrev pub most_reported : ℕ
most_reported = 5

-- the room for any printed line: its letter, as many numbers as it can have, each a comma and the most digits of 64 bits, and the line feed
abbrev pub longest_output : ℕ
longest_output = 1 + most_reported * (1 + most_digits64) + 1

-- That much room with a text at its front and zeros behind it, and the text's length: so the line is given by value, and no buffer can be too short.
unfoldable pub output_of : List ℕ → OutputLine
output_of text = record { bytes = put_at (replicate longest_output 0) 0 text; length = length text }
