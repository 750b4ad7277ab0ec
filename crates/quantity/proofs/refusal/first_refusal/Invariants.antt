-- `quantity::refusal::first_refusal` meets its contract. The loop's invariant: no row before the current one applies, so that the rows
-- from here on decide.
use Rattle.std.proofs.Common.{◌≡◌, drop}
use Rattle.quantity.specs.Refusals.{first_of}
use Rattle.quantity.proofs.refusal.first_refusal.Given as goal

abbrev pub invariant-loop-row : goal.invariant-loop-row
invariant-loop-row l = first_of (drop l.row-index l.rows) ≡ first_of l.rows
