-- A refusal of the limit is the verdict's (`of_refusal`), which has to be said of the exit of the `?`; and where there is a limit, its comparison is the
-- verdict (`of_limit`). Which refusal the `?` gives is searched for, so that a body is judged by that and not by its form.
use Rattle.std.proofs.Common.{rules, ap, sym, ◌∙◌}
use Rattle.std.proofs.lemmas.Result.{err_from_is_err_and}
use Rattle.quantity.specs.Refusals.{refusal_number}
use Rattle.verdict.specs.Rows.{verdict_rows}
use Rattle.verdict.specs.Verdict.{verdict_of}
use Rattle.verdict.proofs.Certificate.{of_limit, of_refusal}
use Rattle.quantity.proofs.Rows.{number_of_rows}
use Rattle.verdict.proofs.Verdicts.{passes_exactly}
use Rattle.verdict.proofs.bench.error_verdict.Goals as goal

pub returns-in_err-limit-clause-answer : goal.returns-in_err-limit-clause-answer
returns-in_err-limit-clause-answer c =
    let p = err_from_is_err_and c.from_residual.result c.from_residual.ensures.1 in
    rw (p.1, p.2) (sym (of_refusal c.args.point _ _ _ (search rules)))

pub returns-in_err-limit-clause-number : goal.returns-in_err-limit-clause-number
unfolding verdict_of
returns-in_err-limit-clause-number c =
    let a = c.args in
    ap refusal_number (returns-in_err-limit-clause-answer c) ∙ number_of_rows (verdict_rows a.point a.indicated a.conventional_true) _

pub returns-in_err-limit-clause-passes_exactly : goal.returns-in_err-limit-clause-passes_exactly
returns-in_err-limit-clause-passes_exactly c = passes_exactly c.args.point _ _ _ (returns-in_err-limit-clause-answer c)

pub returns-clause-answer : goal.returns-clause-answer
returns-clause-answer c = search (rules, of_limit)

pub returns-clause-number : goal.returns-clause-number
unfolding verdict_of
returns-clause-number c =
    let a = c.args in
    ap refusal_number (returns-clause-answer c) ∙ number_of_rows (verdict_rows a.point a.indicated a.conventional_true) _

pub returns-clause-passes_exactly : goal.returns-clause-passes_exactly
returns-clause-passes_exactly c = passes_exactly c.args.point _ _ _ (returns-clause-answer c)
