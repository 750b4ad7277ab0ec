-- The loop's invariant: no edition above the one at hand is found.
use Rattle.std.proofs.Common.{◌≡◌}
use Rattle.meter.specs.Edition.{last_edition}
use Rattle.lines.specs.Reading.{opened_up_to}
use Rattle.lines.proofs.opening.opened_edition.Given as goal

abbrev pub invariant-loop-edition : goal.invariant-loop-edition
invariant-loop-edition l = opened_up_to l.layout last_edition l.bytes ≡ opened_up_to l.layout l.edition l.bytes
