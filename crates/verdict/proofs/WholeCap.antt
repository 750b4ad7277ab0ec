-- At verification no complete instrument's limit passes 10 percent: the calculator's is at most 1.5, the pair's 3.5, the flow sensor's 5.
-- Assumes nothing.
use Prim.Native.Nat.{ℕ, ◌*◌, ◌≤◌}
use native.Mathlib.Omega.{arith}
use Rattle.quantity.proofs.Fractions.{sums, at_most_second}
use Rattle.quantity.specs.Fractions.{◌over◌, whole, plus, times, AtMost}
use Rattle.verdict.specs.Limit.{figures_of, calculator_limit, pair_limit, flow_sensor_limit, complete_limit}
use Rattle.verdict.specs.Theorems.{AtMost10}
use Rattle.quantity.specs.declared.fraction.Fraction.{Fraction}
use Rattle.verdict.specs.declared.point.TestPoint.{TestPoint}
use Rattle.verdict.proofs.ClassFigures.{of_class, capped_at_5, complete_at_verification}
use Rattle.verdict.proofs.Ranges.{ranges}

of_calculator : (p : TestPoint) → p.delta_min * 100 ≤ p.difference.0 → AtMost (calculator_limit p) (3 over 2)
unfolding calculator_limit plus
of_calculator p h = omega arith

of_pair : (p : TestPoint) → p.delta_min * 100 ≤ p.difference.0 → AtMost (pair_limit p) (7 over 2)
unfolding pair_limit plus times
of_pair p h = omega arith

of_flow_sensor : (class : ℕ) → 1 ≤ class → class ≤ 3 → (p : TestPoint) → AtMost (flow_sensor_limit (figures_of class) p) (whole 5)
unfolding flow_sensor_limit
of_flow_sensor class l m p = (capped_at_5 _ _ (of_class class l m).cap_of).0 (at_most_second _ _)

10-in-all : (x : Fraction) → AtMost x (plus (plus (3 over 2) (7 over 2)) (whole 5)) → AtMost x (whole 10)
unfolding plus
10-in-all x h = omega arith

pub at_most_10 : AtMost10
unfolding complete_limit
at_most_10 p a part stage =
    let r = ranges p a in
    let d = r.difference.difference.0 in
    let flow = of_flow_sensor p.class r.class.0 r.class.1 p in
    rw (complete_at_verification (figures_of p.class) p part stage)
    (10-in-all _ (sums _ _ _ _ (sums _ _ _ _ (of_calculator p d) (of_pair p d)) flow))
