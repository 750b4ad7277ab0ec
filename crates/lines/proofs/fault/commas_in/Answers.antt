-- A line feed ends the line, whose commas are those before it; each byte that is gone by leaves as many, with those before it.
use Rattle.std.proofs.Common.{◌∙◌, ap, arith}
use Rattle.lines.proofs.Faults.{commas_of, with_before, at_feed, at_comma, at_other, at_no_byte, from_start}
use Rattle.lines.proofs.fault.commas_in.Goals as goal
use Rattle.lines.proofs.fault.commas_in.Goals.{then-byte-eq44, else-byte-eq44}

pub loop-byte-init : goal.loop-byte-init
loop-byte-init c = (omega arith, from_start (commas_of c.args.after.now))

pub returns-then-byte-eq10 : goal.returns-then-byte-eq10
returns-then-byte-eq10 c =
    let l = c.loop-byte in
    at_feed l.commas l.byte-index 0 c.args.after.now c.loop-byte-test.true c.if-byte-eq10.true ∙ l.invariant.1

pub loop-byte-preserved : goal.loop-byte-preserved
loop-byte-preserved c =
    let l = c.loop-byte in
    let bs = c.args.after.now in
    elim c.if-byte-eq44.branch [
      | then-byte-eq44 w ↦
          rw w.commas-is (omega (arith, l.invariant.0), at_comma l.commas l.byte-index 0 bs c.loop-byte-test.true w.if-byte-eq44.true ∙ l.invariant.1)
      | else-byte-eq44 w ↦
          rw w.commas-is (omega (arith, l.invariant.0), ap (with_before l.commas) (at_other l.commas l.byte-index 0 bs c.loop-byte-test.true c.if-byte-eq10.false w.if-byte-eq44.false) ∙ l.invariant.1)
    ]

pub returns : goal.returns
returns c = at_no_byte c.loop-byte.commas c.loop-byte.byte-index c.args.after.now c.loop-byte-test.false ∙ c.loop-byte.invariant.1
