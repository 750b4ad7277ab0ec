-- The bytes of a line, with what follows them, read again: its first field, its numbers, its size and its shape.
-- Assumes nothing.
use Rattle.std.proofs.Common.{Ok}
use mathlib.Core.Path.{◌≡◌, ap, ◌∙◌}
use mathlib.Core.Bool.{false}
use mathlib.Core.List.{List, ◌∷◌, ◌++◌, map}
use Prim.Native.Nat.{ℕ}
use lib.ListN.{length}
use Rattle.quantity.specs.Refusals.{first_of}
use Rattle.lines.specs.Number.{decimal, some_long}
use Rattle.lines.specs.Line.{kind_of, first_field, numbers_of, bytes_of, count_of}
use Rattle.lines.specs.Reading.{size_of, fields_in, numbers_in, shape_rows}
use Rattle.lines.specs.declared.line.EditionLine.{EditionLine}
use Rattle.lines.proofs.Shape.{line_bytes, text_line, numbers_back, size_back, shape_back, fields_back}
use Rattle.lines.proofs.LineLaws.{numbers_counted, plain}

module _ (line : EditionLine) (rest : List ℕ) where
  abbrev pub first : List ℕ
  first = first_field (kind_of line.line)

  pub line_bytes_lem : bytes_of line ++ rest ≡ line_bytes first (numbers_of line) rest
  unfolding bytes_of
  line_bytes_lem = text_line first (numbers_of line) rest

  pub bytes_fields : fields_in (bytes_of line ++ rest) ≡ first_field (kind_of line.line) ∷ map decimal (numbers_of line)
  bytes_fields = ap fields_in line_bytes_lem ∙ fields_back first (numbers_of line) rest (plain (kind_of line.line))

  pub bytes_numbers : numbers_in (bytes_of line ++ rest) ≡ numbers_of line
  bytes_numbers = ap numbers_in line_bytes_lem ∙ numbers_back first (numbers_of line) rest (plain (kind_of line.line))

  pub bytes_size : size_of (bytes_of line ++ rest) ≡ length (bytes_of line)
  unfolding bytes_of
  bytes_size = ap size_of line_bytes_lem ∙ size_back first (numbers_of line) rest (plain (kind_of line.line))

  pub bytes_shape : some_long (numbers_of line) ≡ false
      → first_of (shape_rows (first_field (kind_of line.line)) (count_of line.edition (kind_of line.line)) (bytes_of line ++ rest)) ≡ Ok tt
  bytes_shape h = rw (← numbers_counted line, line_bytes_lem) (shape_back first (numbers_of line) rest (plain (kind_of line.line)) h)
