-- The loop's invariant: the numbers before the index, each after its comma, were put at the front, and place is behind them.
use Rattle.lines.proofs.Listing.{Progress}
use Rattle.lines.proofs.writing.put_fields.Given as goal

abbrev pub invariant-loop-number : goal.invariant-loop-number
invariant-loop-number l = Progress l.initial.part l.numbers l.part l.place l.number-index
