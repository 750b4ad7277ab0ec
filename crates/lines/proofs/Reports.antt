-- The output line is never longer than the bytes that it has.
-- Assumes nothing.
use mathlib.Core.List.{List}
use Prim.Native.Nat.{ℕ, ◌≤◌, ◌<◌, ◌^◌}
use native.Mathlib.Omega.{arith}
use lib.ListN.{length, get_or, length-append}
use Rattle.lines.specs.Line.{text_of}
use Rattle.lines.specs.Report.{most_reported, longest_output}
use Rattle.lines.proofs.Listing.{fields_within}

pub line_within : (first ns : List ℕ) → length first ≤ 1 → length ns ≤ most_reported → ((i : ℕ) → get_or ns i 0 < 2 ^ 64) → length (text_of first ns) ≤ longest_output
unfolding text_of
line_within first ns one few h = simp length-append (omega (arith, fields_within ns h))
