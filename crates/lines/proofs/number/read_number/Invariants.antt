-- The loop's invariant, `PassedDigits`: the first n bytes are digits, which say value.
use Rattle.lines.proofs.Runs.{PassedDigits}
use Rattle.lines.proofs.number.read_number.Given as goal

abbrev pub invariant-loop-n : goal.invariant-loop-n
invariant-loop-n l = PassedDigits l.part l.value l.n
