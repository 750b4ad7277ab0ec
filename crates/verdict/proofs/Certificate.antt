-- The limit in lowest terms, and the verdict from the two operations.
-- Assumes nothing.
use mathlib.Core.Path.{◌≡◌, refl, sym, ◌∙◌, ap, subst}
use mathlib.Core.Bool.{Bool}
use mathlib.Core.List.{[], ◌∷◌}
use Prim.Native.Nat.{ℕ, ◌*◌}
use Rattle.std.specs.Prelude.{Result, Ok, Err}
use native.Mathlib.Omega.{arith}
use Rattle.quantity.specs.Divisors.{reduced}
use Rattle.quantity.specs.Fractions.{◌over◌, times, Represents}
use Rattle.quantity.specs.Refusals.{row, first_of}
use Rattle.quantity.proofs.Fractions.{doubled}
use Rattle.std.specs.Result.{result_and}
use Rattle.quantity.proofs.Rows.{answered, parts}
use Rattle.quantity.proofs.LowestTerms.{reduced_represents, reduced_exactly, is_reduced, same_reduced}
use Rattle.quantity.specs.declared.fraction.Fraction.{Fraction}
use Rattle.quantity.specs.declared.refusal.Refusal.{Refusal}
use Rattle.quantity.specs.declared.refusal.Refusal.TheVariants as R
use Rattle.verdict.specs.Certificate.{error_limit_of, comparison_of}
use Rattle.verdict.specs.Limit.{figures_of, part_limit, limit_at_stage, limit_of}
use Rattle.verdict.specs.Rows.{point_rows, value_rows, Admitted}
use Rattle.verdict.specs.Theorems.{LimitExactly, compared_with, FromPair}
use Rattle.verdict.specs.Verdict.{passes, answer, verdict_of}
use Rattle.verdict.specs.Inside.Admitted.{point_of}
use Rattle.verdict.specs.declared.admitted.AdmittedPoint.{AdmittedPoint}
use Rattle.verdict.specs.declared.class.Figures.{Figures}
use Rattle.verdict.specs.Inside.Kinds.{stage_number}
use Rattle.verdict.specs.declared.kinds.Stage.{Stage}
use Rattle.verdict.specs.declared.kinds.Stage.TheVariants.{Verification, InService}
use Rattle.verdict.specs.declared.point.TestPoint.{TestPoint}
use Rattle.verdict.proofs.Comparisons.{of_values, equal_comparisons}
use Rattle.verdict.proofs.Positive.{limit_is_fraction}

-- the limit of a test point's class
abbrev limit_at : TestPoint → Fraction
limit_at p = limit_of (figures_of p.class) p

pub limit_exactly : (p : TestPoint) (y : Result Fraction Refusal) → y ≡ error_limit_of p → LimitExactly p y
unfolding error_limit_of
limit_exactly p y same r = (
  λ e.
      let s = answered (first_of (point_rows p)) (reduced (limit_at p)) r (sym same ∙ e) in
      let m = (reduced_exactly (limit_at p) _ refl r (limit_is_fraction _ p s.0)).0 (sym s.1) in
      (s.0, m.0, m.1),
  λ h. same ∙ simp (h.0, is_reduced r (limit_at p) (limit_is_fraction _ p h.0) h.1 h.2),
)

-- the stage, for any fraction that equals the limit at verification
abbrev by_stage : Stage → Fraction → Fraction
by_stage s l = limit_at_stage (stage_number s) l

pub at_verification : (f : Figures) (a : AdmittedPoint) (r : Fraction) → a.stage ≡ Verification → Represents r (part_limit f (point_of a)) →
    Represents r (limit_of f (point_of a))
unfolding limit_of
at_verification f a r e h = subst (λ (s : Stage). Represents r (by_stage s (part_limit f (point_of a)))) (sym e) h

pub twice_in_service : (f : Figures) (a : AdmittedPoint) (r : Fraction) → a.stage ≡ InService → Represents r (part_limit f (point_of a)) →
    Represents (2 * r.numerator over r.denominator) (limit_of f (point_of a))
unfolding limit_of times
twice_in_service f a r e h =
    let d = doubled r (part_limit f (point_of a)) h in
    subst (λ (s : Stage). Represents (2 * r.numerator over r.denominator) (by_stage s (part_limit f (point_of a)))) (sym e)
    (record { is_fraction = omega (arith, d.is_fraction); same = omega (arith, d.same) })

-- any fraction that equals the limit gives the answer
pub printed : (p : TestPoint) (r : Fraction) → Admitted p → Represents r (limit_at p) → Ok (reduced r) ≡ error_limit_of p
unfolding error_limit_of
printed p r a h = simp (a, same_reduced r (limit_at p) h.is_fraction (limit_is_fraction _ p a) h.same)

-- by the answer of the test point's rows, to which those of the values are added
by_rows : (o : Result Unit Refusal) (p : TestPoint) (i x : ℕ) → (o ≡ Ok tt → Admitted p) →
    compared_with (result_and o (Ok (reduced (limit_at p)))) i x ≡ result_and (result_and o (first_of (value_rows i x))) (Ok (answer (passes (limit_at p) i x)))
unfolding comparison_of
by_rows (Err r) p i x a = refl
by_rows (Ok u) p i x a =
    let f = limit_is_fraction _ p (a refl) in
    let m = reduced_represents (limit_at p) f in
    equal_comparisons (reduced (limit_at p)) (limit_at p) i x m.is_fraction f m.same
    ∙ ap (λ (b : Bool). result_and (first_of (row R.Values b ∷ [])) (Ok (answer (passes (limit_at p) i x)))) (of_values (limit_at p) i x f)

pub from_pair : FromPair
unfolding error_limit_of verdict_of
from_pair p i x =
    by_rows (first_of (point_rows p)) p i x (λ e. e)
    ∙ ap (λ (o : Result Unit Refusal). result_and o (Ok (answer (passes (limit_at p) i x)))) (sym (parts (point_rows p) (value_rows i x)))

-- as the code meets it, by the limit's answer
pub of_limit : (p : TestPoint) (l : Fraction) (i x : ℕ) → error_limit_of p ≡ Ok l → verdict_of p i x ≡ comparison_of l i x
of_limit p l i x e = sym (from_pair p i x) ∙ ap (λ (a : Result Fraction Refusal). compared_with a i x) e

pub of_refusal : (p : TestPoint) (r : Refusal) (i x : ℕ) → error_limit_of p ≡ Err r → verdict_of p i x ≡ Err r
of_refusal p r i x e = sym (from_pair p i x) ∙ ap (λ (a : Result Fraction Refusal). compared_with a i x) e
