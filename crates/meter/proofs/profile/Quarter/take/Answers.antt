-- What the heat register grew by fits beside what stands in the cell: each is within the register's limit.
use Rattle.std.proofs.Common.{◌≡◌, rules, length, arith}
use Rattle.meter.specs.Profile.{quarters}
use Rattle.meter.proofs.Quarters.{fits}
use Rattle.meter.proofs.profile.Quarter.take.Goals as goal

pub overflow_add-cells : goal.overflow_add-cells
overflow_add-cells c =
    let q = c.args.self in
    let long : length q.cells ≡ quarters = search rules in
    let small = fits c.args.m q.cells c.args.s q.index _ long q.bounds c.step-stepped.ensures.answer in
    omega (arith, small)
