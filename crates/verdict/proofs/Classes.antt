-- The formulas by which other published rules give a complete instrument's limit, while the flow sensor's part is at most 5: three uses of one law over
-- the class.
-- Assumes nothing.
use mathlib.Core.Path.{◌≡◌, sym, ap, subst}
use mathlib.Core.Bool.{Bool, cond}
use Prim.Native.Nat.{ℕ, ◌+◌, ◌*◌, ◌≤◌, ◌<◌}
use native.Mathlib.Nat.{mul-le-mul}
use native.Mathlib.Omega.{arith}
use lib.Dec.{lit≤}
use borrow.Author.Tests.{le-leb}
use Rattle.quantity.specs.Fractions.{whole, plus, times, smaller, AtMost, Represents}
use Rattle.verdict.specs.Limit.{hundredths, figures_of, calculator_limit, pair_limit, flow_sensor_sum, flow_sensor_limit, complete_limit, limit_of}
use Rattle.verdict.specs.Theorems.{formula, HasFormula, CompleteFormula}
use Rattle.quantity.specs.declared.fraction.Fraction.{Fraction}
use Rattle.verdict.specs.declared.class.Figures.{Figures}
use Rattle.verdict.specs.declared.point.TestPoint.{TestPoint}
use Rattle.verdict.proofs.ClassFigures.{of_class, capped_at_5, complete_at_verification}
use Rattle.verdict.proofs.Ranges.{ranges}

uncapped : (f : Figures) (p : TestPoint) → AtMost (flow_sensor_sum f p) (hundredths f.cap) → flow_sensor_sum f p ≡ flow_sensor_limit f p
unfolding flow_sensor_limit smaller
uncapped f p h = ap (λ (b : Bool). cond b (flow_sensor_sum f p) (hundredths f.cap)) (sym (le-leb _ _ h))

-- the three sums together, for any figures whose constant is k−1 percent
of_sums : (f : Figures) (p : TestPoint) (k : ℕ) → f.constant + 100 ≡ 100 * k → 0 < p.difference.0 → 0 < p.q → Represents (formula k f.factor p) (plus (plus (calculator_limit p) (pair_limit p)) (flow_sensor_sum f p))
unfolding calculator_limit pair_limit flow_sensor_sum plus times
of_sums f p k e dh qh =
    let d = p.difference.0 in
    let q = p.q in
    record {
      is_fraction = omega (arith, mul-le-mul dh qh);
      same = omega (arith, ap (λ (y : ℕ). y * (40000 * (d * d * d * (q * q)))) e);
    }

of_figures : (f : Figures) (p : TestPoint) (k : ℕ) → f.constant + 100 ≡ 100 * k → 0 < p.difference.0 → 0 < p.q → AtMost (flow_sensor_sum f p) (hundredths f.cap) → Represents (formula k f.factor p) (complete_limit f p)
unfolding complete_limit
of_figures f p k e dh qh h =
    subst (λ (x : Fraction). Represents (formula k f.factor p) (plus (plus (calculator_limit p) (pair_limit p)) x)) (uncapped f p h)
    (of_sums f p k e dh qh)

by_class : (class : ℕ) → 1 ≤ class → class ≤ 3 → HasFormula class (class + 1) (figures_of class).factor
by_class class l m p a part same stage =
    let r = ranges p a in
    let c = of_class class l m in
    let k = class + 1 in
    subst (λ (n : ℕ). AtMost (flow_sensor_sum (figures_of n) p) (whole 5) → Represents (formula k (figures_of class).factor p) (limit_of (figures_of n) p)) (sym same)
    (λ h.
    subst (Represents (formula k (figures_of class).factor p)) (sym (complete_at_verification (figures_of class) p part stage))
    (of_figures (figures_of class) p k (omega arith) (omega arith) (omega arith) ((capped_at_5 _ _ c.cap_of).1 h)))

pub complete_formula : CompleteFormula
unfolding figures_of
complete_formula = (by_class 1 (lit≤ tt) (lit≤ tt), by_class 2 (lit≤ tt) (lit≤ tt), by_class 3 (lit≤ tt) (lit≤ tt))
