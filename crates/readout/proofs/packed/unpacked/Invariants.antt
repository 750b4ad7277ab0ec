-- The loop's invariant, `LastBytes`: the bytes read, which are the last ones, hold decimal digits, which say number.
use Rattle.std.proofs.Common.{length}
use Rattle.readout.proofs.PackedLoops.{LastBytes}
use Rattle.readout.proofs.packed.unpacked.Given as goal

abbrev pub invariant-loop-byte : goal.invariant-loop-byte
invariant-loop-byte l = LastBytes l.bytes (length l.yielded) l.number
