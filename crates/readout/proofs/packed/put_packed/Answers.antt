-- A turn writes the two lowest digits that are left.
use Rattle.std.proofs.Common.{◌∙◌, length-set, sym, arith}
use Rattle.readout.proofs.PackedLoops.{packed_more, packed_all}
use Rattle.readout.proofs.packed.put_packed.Goals as goal

pub loop-byte-preserved : goal.loop-byte-preserved
loop-byte-preserved c =
    let l = c.loop-byte in
    simp length-set (packed_more l.part l.byte-index l.rest (omega arith) ∙ l.invariant)

pub returns : goal.returns
returns c =
    let l = c.loop-byte in
    sym (packed_all l.part l.byte-index l.rest (omega arith)) ∙ l.invariant
