-- A digit is one more of the number; at any other byte the digits end.
use Rattle.std.proofs.Common.{◌∙◌, sym}
use Rattle.lines.proofs.Runs.{looked_more, looked_end}
use Rattle.lines.proofs.number.read_number.Goals as goal

pub checked_number-requires : goal.checked_number-requires
checked_number-requires c =
    let l = c.loop-n in
    looked_end _ _ l.value l.n c.min-most.ensures l.invariant c.loop-n-test.true (sym c.is_ascii_digit.ensures.value ∙ c.if-not-is_ascii_digit.true)

pub loop-n-preserved : goal.loop-n-preserved
loop-n-preserved c =
    let l = c.loop-n in
    rw c.from.ensures (looked_more _ _ l.value l.n c.min-most.ensures l.invariant c.loop-n-test.true (sym c.is_ascii_digit.ensures.value ∙ c.if-not-is_ascii_digit.false))
