-- The answer is the definition's, of which the number and the theorem speak.
use Rattle.std.proofs.Common.{rules, ap, ◌∙◌}
use Rattle.quantity.specs.Refusals.{refusal_number}
use Rattle.verdict.specs.Certificate.{error_limit_of}
use Rattle.verdict.specs.Rows.{point_rows}
use Rattle.verdict.proofs.Certificate.{printed, limit_exactly}
use Rattle.quantity.proofs.Rows.{number_of_rows}
use Rattle.verdict.proofs.limit.error_limit.Goals as goal

pub returns-in_err-admitted-clause-answer : goal.returns-in_err-admitted-clause-answer
unfolding error_limit_of
returns-in_err-admitted-clause-answer c = search rules

pub returns-in_err-admitted-clause-number : goal.returns-in_err-admitted-clause-number
unfolding error_limit_of
returns-in_err-admitted-clause-number c = ap refusal_number (returns-in_err-admitted-clause-answer c) ∙ number_of_rows (point_rows c.args.point) _

pub returns-in_err-admitted-clause-limit_exactly : goal.returns-in_err-admitted-clause-limit_exactly
returns-in_err-admitted-clause-limit_exactly c = limit_exactly c.args.point _ (returns-in_err-admitted-clause-answer c)

pub returns-clause-answer : goal.returns-clause-answer
returns-clause-answer c = search (rules, printed)

pub returns-clause-number : goal.returns-clause-number
unfolding error_limit_of
returns-clause-number c = ap refusal_number (returns-clause-answer c) ∙ number_of_rows (point_rows c.args.point) _

pub returns-clause-limit_exactly : goal.returns-clause-limit_exactly
returns-clause-limit_exactly c = limit_exactly c.args.point _ (returns-clause-answer c)
