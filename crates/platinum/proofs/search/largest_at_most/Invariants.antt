-- `platinum::search::largest_at_most` meets its contract. The loop's invariant: t is not below the answer, and what the notes say so far.
use Rattle.std.proofs.Common.{◌≡◌, ◌≤◌, ◌<◌, ◌+◌}
use Rattle.platinum.specs.Line.{line_point}
use Rattle.platinum.proofs.Ratios.{answer_of}
use Rattle.platinum.proofs.search.largest_at_most.Given as goal

abbrev pub invariant-loop-t : goal.invariant-loop-t
invariant-loop-t l = record {
  same_ratio : l.search.ratio ≡ l.fn.search.ratio;
  not_below : answer_of l.search.ratio ≤ l.t;
  on_line : l.search.tries.first ≡ line_point l.search.ratio;
  near_start : l.search.tries.farthest ≤ 256;
  begun : 0 < l.search.tries.count;
  few : l.search.tries.count + l.t ≤ 3 + answer_of l.search.ratio;
}
