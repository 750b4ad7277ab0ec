-- The row that applies is the first that does; behind the last one, none did.
use Rattle.std.proofs.Common.{◌∙◌, ap}
use Rattle.quantity.specs.Refusals.{refusal_number}
use Rattle.quantity.proofs.Rows.{row_applies, rows_end, refuses_nothing, first_number_lem}
use Rattle.quantity.proofs.refusal.first_refusal.Goals as goal

pub returns-then-row-clause-answer : goal.returns-then-row-clause-answer
returns-then-row-clause-answer c = row_applies c.args.rows.now c.loop-row.row-index _ c.loop-row-test.true c.if-row.true ∙ c.loop-row.invariant

pub returns-then-row-clause-number : goal.returns-then-row-clause-number
returns-then-row-clause-number c = ap refusal_number (returns-then-row-clause-answer c) ∙ first_number_lem c.args.rows.now

pub returns-then-row-clause-refuses_nothing : goal.returns-then-row-clause-refuses_nothing
returns-then-row-clause-refuses_nothing c = refuses_nothing c.args.rows.now _ (returns-then-row-clause-answer c)

pub returns-clause-answer : goal.returns-clause-answer
returns-clause-answer c = rows_end c.args.rows.now c.loop-row.row-index c.loop-row-test.false ∙ c.loop-row.invariant

pub returns-clause-number : goal.returns-clause-number
returns-clause-number c = ap refusal_number (returns-clause-answer c) ∙ first_number_lem c.args.rows.now

pub returns-clause-refuses_nothing : goal.returns-clause-refuses_nothing
returns-clause-refuses_nothing c = refuses_nothing c.args.rows.now _ (returns-clause-answer c)
