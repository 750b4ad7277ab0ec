-- A turn reads the byte before those that are read, which has two digits more. A digit above nine is one of the whole.
use Rattle.std.proofs.Common.{arith}
use mathlib.Core.Logic.{inl, inr, ⊎_elim}
use Rattle.std.proofs.lemmas.Iterator.Adapters.{YieldsList-from_rev_slice}
use Rattle.std.proofs.lemmas.Iterator.Consumers.{YieldsList-turn}
use Rattle.std.proofs.lemmas.List.{length_push}
use Rattle.readout.proofs.PackedLoops.{last_none, last_more, last_above, last_fits}
use Rattle.readout.proofs.packed.unpacked.Goals as goal

pub loop-byte-init : goal.loop-byte-init
loop-byte-init c = last_none c.args.bytes.now

pub returns-then-high-gt9 : goal.returns-then-high-gt9
returns-then-high-gt9 c =
    let l = c.loop-byte in
    let t = YieldsList-turn (YieldsList-from_rev_slice c.args.bytes.now cc) l.yielded _ l.yielded_by _ _ c.in-Some.byte c.in-Some.is c.next.ensures.steps in
    rw (last_above _ _ _ _ l.invariant t (⊎_elim (λ h. inl h) (λ h. inr h.1) c.then-high-gt9.either))

pub overflow_mul-number : goal.overflow_mul-number
overflow_mul-number c =
    let l = c.loop-byte in
    let t = YieldsList-turn (YieldsList-from_rev_slice c.args.bytes.now cc) l.yielded _ l.yielded_by _ _ c.in-Some.byte c.in-Some.is c.next.ensures.steps in
    omega (arith, last_fits _ _ _ _ l.invariant t c.requires)

pub overflow_add-number : goal.overflow_add-number
overflow_add-number c =
    let l = c.loop-byte in
    let t = YieldsList-turn (YieldsList-from_rev_slice c.args.bytes.now cc) l.yielded _ l.yielded_by _ _ c.in-Some.byte c.in-Some.is c.next.ensures.steps in
    omega (arith, last_fits _ _ _ _ l.invariant t c.requires)

pub loop-byte-preserved : goal.loop-byte-preserved
loop-byte-preserved c =
    let l = c.loop-byte in
    let t = YieldsList-turn (YieldsList-from_rev_slice c.args.bytes.now cc) l.yielded _ l.yielded_by _ _ c.in-Some.byte c.in-Some.is c.next.ensures.steps in
    rw (c.from.ensures, length_push) (last_more _ _ _ _ l.invariant t c.if-high-gt9.false c.if-low-gt9.false)
