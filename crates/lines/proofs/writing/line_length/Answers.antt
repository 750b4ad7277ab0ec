-- The first field and the numbers that are shown are the line's.
use Rattle.std.proofs.Common.{ap, List, ℕ, length, ◌∙◌}
use Rattle.lines.proofs.Listing.{text_is}
use Rattle.lines.proofs.writing.line_length.Goals as goal

pub returns : goal.returns
returns c =
    c.text_length.ensures
    ∙ ap (λ (t : List ℕ). length t) (text_is c.args.what _ c.numbers_of-listed.ensures _ _ c.first_field.ensures c.shown.ensures)
