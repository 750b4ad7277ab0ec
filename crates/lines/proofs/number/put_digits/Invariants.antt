-- The loop's invariant: the digits still to write, with what follows them in the part, are all the digits with what followed them.
use Rattle.std.proofs.Common.{◌≡◌, ◌++◌, drop}
use Rattle.lines.specs.Inside.Parts.{last_digits}
use Rattle.lines.proofs.number.put_digits.Given as goal

abbrev pub invariant-loop-i : goal.invariant-loop-i
invariant-loop-i l = last_digits l.i l.rest ++ drop l.i l.part ≡ last_digits l.k l.x ++ drop l.k l.initial.part
