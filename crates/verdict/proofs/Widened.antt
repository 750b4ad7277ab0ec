-- A wider limit never turns a pass into a fail.
-- Assumes nothing.
use mathlib.Core.Path.{◌≡◌, refl}
use Prim.Native.Nat.{ℕ}
use Rattle.std.specs.Prelude.{Ok}
use Rattle.quantity.specs.Fractions.{AtMost}
use Rattle.quantity.specs.Refusals.{outside}
use Rattle.quantity.proofs.Fractions.{twice}
use Rattle.quantity.proofs.Rows.{none_applies, no_refusal, none_of_parts, none_together}
use Rattle.verdict.specs.Limit.{figures_of, calculator_limit, pair_limit, flow_sensor_sum, flow_sensor_limit, complete_limit, part_limit, limit_of}
use Rattle.verdict.specs.Rows.{point_rows, value_rows, Admitted}
use Rattle.verdict.specs.Theorems.{at_stage, InService}
use Rattle.verdict.specs.Verdict.{verdict_of}
use Rattle.verdict.specs.declared.point.TestPoint.{TestPoint}
use Rattle.verdict.specs.declared.bench.Verdict.TheVariants.{Pass}
use Rattle.verdict.proofs.Passing.{wider}
use Rattle.verdict.proofs.Positive.{limit_is_fraction}
use Rattle.verdict.proofs.Verdicts.{passes_exactly}

-- what passes at one test point passes at every other whose limit is no smaller
widened : (p w : TestPoint) (i x : ℕ) → (Admitted p → Admitted w) → AtMost (limit_of (figures_of p.class) p) (limit_of (figures_of w.class) w) →
    verdict_of p i x ≡ Ok Pass → verdict_of w i x ≡ Ok Pass
widened p w i x a h e =
    let t = (passes_exactly p i x _ refl).0 e in
    let n = none_of_parts (point_rows p) (value_rows i x) t.0 in
    let admitted = no_refusal (point_rows p) n.0 in
    let none = none_together (point_rows w) (value_rows i x) (none_applies (point_rows w) (a admitted)) n.1 in
    (passes_exactly w i x _ refl).1 (none, wider (limit_of (figures_of p.class) p) _ i x (limit_is_fraction _ _ admitted) h t.1)

pub in_service : InService
unfolding limit_of part_limit complete_limit flow_sensor_limit flow_sensor_sum pair_limit calculator_limit outside
in_service p i x = widened (at_stage 1 p) (at_stage 2 p) i x (λ a. a) (twice (part_limit (figures_of p.class) p))
