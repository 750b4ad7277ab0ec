-- The loop's invariant: the bytes written, with what is left of the number in the bytes after them, are the whole number.
use Rattle.std.proofs.Common.{◌≡◌, ◌-◌, ◌++◌, length, take}
use Rattle.readout.specs.Packed.{packed}
use Rattle.readout.proofs.packed.put_packed.Given as goal

abbrev pub invariant-loop-byte : goal.invariant-loop-byte
invariant-loop-byte l = take l.byte-index l.part ++ packed (length l.part - l.byte-index) l.rest ≡ packed (length l.initial.part) l.x
