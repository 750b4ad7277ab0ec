-- The rise of the enthalpy is at most 80000000000; the divisor is above zero, since the two temperatures differ, and below 2^54.
use Rattle.std.proofs.Common.{arith, ap, ◌≤◌}
use Rattle.std.proofs.Math.Nat.{mul-le-mul}
use Rattle.quantity.specs.declared.units.Difference.{Difference}
use Rattle.quantity.specs.Units.{distance_of, last_hundredth}
use Rattle.water.proofs.Passed.{last_most}
use Rattle.water.proofs.pair.Pair.floored_coefficient.Goals as goal

pub overflow_mul-rise : goal.overflow_mul-rise
overflow_mul-rise c = omega (arith, c.enthalpy_rise-rise.ensures.most_rise)

pub overflow_mul-volume : goal.overflow_mul-volume
unfolding distance_of
overflow_mul-volume c =
    let s = c.args.self.supply_water in
    let d : c.distance-difference.result.0 ≤ last_hundredth =
    omega (arith, ap (λ (x : Difference). x.0) c.distance-difference.ensures, c.requires, s.in_table, last_most s.pressure) in
    omega (arith, mul-le-mul c.volume.ensures.most_volume d)

pub scaled_quotient-requires : goal.scaled_quotient-requires
unfolding distance_of
scaled_quotient-requires c =
    let s = c.args.self.supply_water in
    let d : (1 ≤ c.distance-difference.result.0) × (c.distance-difference.result.0 ≤ last_hundredth) =
    omega (arith, ap (λ (x : Difference). x.0) c.distance-difference.ensures, c.requires, s.in_table, last_most s.pressure) in
    omega (
      arith,
      c.enthalpy_rise-rise.ensures.most_rise,
      mul-le-mul c.volume.ensures.least_volume d.0,
      mul-le-mul c.volume.ensures.most_volume d.1,
    )
