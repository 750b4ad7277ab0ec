-- Where no row refuses the test point, the denominator of its limit is above zero.
-- Assumes nothing.
use Prim.Native.Nat.{◌<◌}
use native.Mathlib.Omega.{arith}
use lib.Dec.{eqb, lit<}
use Rattle.quantity.specs.Fractions.{whole, times, IsFraction}
use Rattle.quantity.proofs.Fractions.{of_plus, of_times, of_either, of_smaller}
use Rattle.verdict.specs.Limit.{calculator_limit, pair_limit, flow_sensor_sum, flow_sensor_limit, complete_limit, part_limit, limit_of}
use Rattle.verdict.specs.Rows.{Admitted}
use Rattle.verdict.specs.declared.class.Figures.{Figures}
use Rattle.verdict.specs.declared.point.TestPoint.{TestPoint}
use Rattle.verdict.proofs.Ranges.{ranges}

of_part : (f : Figures) (p : TestPoint) → 0 < p.difference.0 → 0 < p.q → IsFraction (part_limit f p)
unfolding part_limit complete_limit flow_sensor_limit flow_sensor_sum pair_limit calculator_limit
of_part f p d q =
    let c : IsFraction (calculator_limit p) = of_plus _ _ (lit< tt) d in
    let r : IsFraction (pair_limit p) = of_plus _ _ (lit< tt) (of_times _ _ (lit< tt) d) in
    let s : IsFraction (flow_sensor_limit f p) = of_smaller IsFraction _ _ (of_plus _ _ (lit< tt) (of_times _ _ (lit< tt) q)) (lit< tt) in
    of_either IsFraction (eqb p.part 1) (calculator_limit p) _ c
    (of_either IsFraction (eqb p.part 2) (pair_limit p) _ r
    (of_either IsFraction (eqb p.part 3) (flow_sensor_limit f p) (complete_limit f p) s (of_plus _ _ (of_plus _ _ c r) s)))

pub limit_is_fraction : (f : Figures) (p : TestPoint) → Admitted p → IsFraction (limit_of f p)
unfolding limit_of
limit_is_fraction f p a =
    let r = ranges p a in
    let part = of_part f p (omega arith) (omega arith) in
    of_either IsFraction (eqb p.stage 1) (part_limit f p) (times (whole 2) (part_limit f p)) part (of_times _ _ (lit< tt) part)
