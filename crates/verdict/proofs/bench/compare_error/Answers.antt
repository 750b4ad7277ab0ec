-- The answer is the definition's, of which the number and the theorem speak.
use Rattle.std.proofs.Common.{ap, ◌∙◌}
use Rattle.quantity.specs.Refusals.{refusal_number}
use Rattle.verdict.specs.Certificate.{comparison_of}
use Rattle.verdict.specs.Rows.{comparison_rows}
use Rattle.verdict.proofs.Comparisons.{compared_exactly}
use Rattle.quantity.proofs.Rows.{number_of_rows}
use Rattle.verdict.proofs.bench.compare_error.Goals as goal

pub returns-clause-number : goal.returns-clause-number
unfolding comparison_of
returns-clause-number c =
    let a = c.args in
    ap refusal_number c.compared.ensures ∙ number_of_rows (comparison_rows a.limit a.indicated a.conventional_true) _

pub returns-clause-compared_exactly : goal.returns-clause-compared_exactly
returns-clause-compared_exactly c = compared_exactly _ _ _ _ c.compared.ensures
