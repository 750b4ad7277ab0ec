-- The rise is at most 80000000000 in either order, and the volume lies between its bounds.
use Rattle.std.proofs.Common.{arith, ◌≤◌}
use Rattle.std.proofs.Math.Nat.{mul-le-mul}
use Rattle.water.proofs.pair.Pair.floored_heat.Goals.{then-lt, else-lt}
use Rattle.water.proofs.pair.Pair.floored_heat.Goals as goal

pub overflow_mul-u : goal.overflow_mul-u
overflow_mul-u c =
    let r : c.if-lt.rise ≤ 80000000000 =
    elim c.if-lt.branch [
      | then-lt w ↦ omega (arith, w.rise-is, w.enthalpy_rise-rise.ensures.most_rise)
      | else-lt w ↦ omega (arith, w.rise-is, w.enthalpy_rise-rise-else-lt.ensures.most_rise)
    ] in
    omega (arith, mul-le-mul c.requires r)

pub scaled_quotient-requires : goal.scaled_quotient-requires
scaled_quotient-requires c =
    let r : c.if-lt.rise ≤ 80000000000 =
    elim c.if-lt.branch [
      | then-lt w ↦ omega (arith, w.rise-is, w.enthalpy_rise-rise.ensures.most_rise)
      | else-lt w ↦ omega (arith, w.rise-is, w.enthalpy_rise-rise-else-lt.ensures.most_rise)
    ] in
    omega (arith, mul-le-mul c.requires r, c.volume.ensures.least_volume, c.volume.ensures.most_volume)
