-- The loop's invariant: so many commas stand before the index, and with those that are left they are the line's.
use Rattle.std.proofs.Common.{◌≡◌, ◌≤◌, drop}
use Rattle.lines.proofs.Faults.{commas_of, with_before}
use Rattle.lines.proofs.fault.commas_in.Given as goal

abbrev pub invariant-loop-byte : goal.invariant-loop-byte
invariant-loop-byte l = (l.commas ≤ l.byte-index) × (with_before l.commas (commas_of (drop l.byte-index l.after)) ≡ commas_of l.after)
