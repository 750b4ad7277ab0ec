-- What is left of a test point's ranges where no row refuses it.
-- Assumes nothing.
use mathlib.Core.Path.{◌≡◌}
use mathlib.Core.Bool.{false}
use Prim.Native.Nat.{ℕ, ◌*◌, ◌≤◌}
use borrow.Author.Tests.{ltb-false}
use Rattle.quantity.specs.Units.{largest_kelvins}
use Rattle.quantity.proofs.Conditions.{neither, inside}
use Rattle.quantity.proofs.Rows.{none_applies}
use Rattle.quantity.specs.declared.units.Difference.{Difference}
use Rattle.verdict.specs.Rows.{difference_outside, largest_flow, flow_outside, point_rows, Admitted}
use Rattle.verdict.specs.declared.point.TestPoint.{TestPoint}

-- where 53 is not given
pub record DifferenceInRange (m : ℕ) (d : Difference) : Type 0 where
  pub delta_min : (1 ≤ m) × (m ≤ 3)
  pub difference : (m * 100 ≤ d.0) × (d.0 ≤ 100 * largest_kelvins)

pub difference_in_range : (m : ℕ) (d : Difference) → difference_outside m d ≡ false → DifferenceInRange m d
unfolding difference_outside
difference_in_range m d e =
    let n = neither _ _ e in
    let s = neither _ _ n.0 in
    record { delta_min = inside _ _ _ s.0; difference = (ltb-false _ _ s.1, ltb-false _ _ n.1) }

-- where 54 is not given
pub record FlowInRange (qp q : ℕ) : Type 0 where
  pub qp_in_range : (1 ≤ qp) × (qp ≤ largest_flow)
  pub q_in_range : (1 ≤ q) × (q ≤ largest_flow)

pub flow_in_range : (qp q : ℕ) → flow_outside qp q ≡ false → FlowInRange qp q
unfolding flow_outside
flow_in_range qp q e =
    let n = neither _ _ e in
    record { qp_in_range = inside _ _ _ n.0; q_in_range = inside _ _ _ n.1 }

pub record InRange (p : TestPoint) : Type 0 where
  pub class : (1 ≤ p.class) × (p.class ≤ 3)
  pub difference : DifferenceInRange p.delta_min p.difference
  pub flow : FlowInRange p.qp p.q

pub ranges : (p : TestPoint) → Admitted p → InRange p
ranges p e =
    let n = none_applies (point_rows p) e in
    record {
      class = inside _ _ _ n.1.0;
      difference = difference_in_range _ _ n.1.1.1.0;
      flow = flow_in_range _ _ n.1.1.1.1.0;
    }
