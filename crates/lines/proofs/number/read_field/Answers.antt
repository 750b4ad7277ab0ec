-- A number's bytes are within the text.
use Rattle.std.proofs.Common.{ℕ, ◌∙◌, sym, arith, length-take, length-drop}
use Rattle.lines.proofs.FieldLaws.{number_within}
use Rattle.lines.proofs.number.read_field.Goals as goal

pub overflow_add-result : goal.overflow_add-result
overflow_add-result c = omega (arith, number_within _ _ _ (sym c.read_number.ensures ∙ c.in_ok-number.was), length-take {A = ℕ}, length-drop {A = ℕ}, c.well_formed)
