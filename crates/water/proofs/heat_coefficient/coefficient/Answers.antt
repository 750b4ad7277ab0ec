-- The answer is the definition's, of which the number and the theorem speak.
use Rattle.std.proofs.Common.{ap, ◌∙◌}
use Rattle.quantity.specs.Refusals.{refusal_number}
use Rattle.water.specs.Coefficient.{coefficient_rows, coefficient_of}
use Rattle.quantity.proofs.Rows.{number_of_rows}
use Rattle.water.proofs.Accepted.{coefficient_exactly}
use Rattle.water.proofs.heat_coefficient.coefficient.Goals as goal

pub returns-clause-number : goal.returns-clause-number
unfolding coefficient_of
returns-clause-number c =
    let a = c.args in
    ap refusal_number c.coefficient_by_rows.ensures ∙ number_of_rows (coefficient_rows a.ts a.tr a.place a.pressure) _

pub returns-clause-coefficient_exactly : goal.returns-clause-coefficient_exactly
returns-clause-coefficient_exactly c = coefficient_exactly _ _ _ _ _ c.coefficient_by_rows.ensures
