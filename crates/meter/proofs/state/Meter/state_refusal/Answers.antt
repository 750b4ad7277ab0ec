-- The capped count is above its limit, or equal to it, exactly where the counts together are.
use Rattle.std.proofs.Common.{arith, ◌+◌, ◌-◌, ◌^◌}
use Rattle.meter.specs.State.{state_rows, largest_count}
use Rattle.meter.proofs.Counts.{passes, equals}
use Rattle.meter.proofs.state.Meter.state_refusal.Goals as goal

pub returns : goal.returns
unfolding state_rows
returns c =
    let m = c.args.self in
    let n = m.accepted + m.refused in
    let cap = 2 ^ 64 - 1 in
    simp (
      c.first_refusal.ensures.answer,
      c.when-2.ensures,
      c.when.ensures,
      c.is_refused.ensures,
      c.saturating_add-count.ensures,
      passes largest_count cap n (omega arith),
      equals largest_count cap n (omega arith),
    )
