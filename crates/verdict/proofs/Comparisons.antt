-- The comparison of an error with a limit of any two numbers.
-- Assumes nothing.
use mathlib.Core.Path.{◌≡◌, sym, ◌∙◌}
use mathlib.Core.Bool.{or-false}
use Prim.Native.Nat.{ℕ}
use native.Mathlib.Omega.{arith}
use borrow.Author.Tests.{ne_eqb}
use Rattle.std.specs.Prelude.{Result}
use Rattle.quantity.specs.Fractions.{IsFraction}
use Rattle.quantity.specs.declared.fraction.Fraction.{Fraction}
use Rattle.quantity.specs.declared.refusal.Refusal.{Refusal}
use Rattle.verdict.specs.Certificate.{comparison_of}
use Rattle.verdict.specs.Rows.{value_outside, incomparable, comparison_rows}
use Rattle.verdict.specs.Theorems.{ComparedExactly, EqualComparisons}
use Rattle.verdict.specs.Verdict.{passes}
use Rattle.verdict.specs.declared.bench.Verdict.{Verdict}
use Rattle.verdict.proofs.Passing.{within, by_products, equal_limits}
use Rattle.verdict.proofs.Verdicts.{pass_exactly}

-- of a fraction, only the two values are asked for
pub of_values : (l : Fraction) (i x : ℕ) → IsFraction l → incomparable l i x ≡ value_outside i x
unfolding incomparable
of_values l i x p = simp (ne_eqb l.denominator 0 (omega arith), or-false)

pub compared_exactly : (l : Fraction) (i x : ℕ) (y : Result Verdict Refusal) → y ≡ comparison_of l i x → ComparedExactly l i x y
unfolding comparison_of
compared_exactly l i x y same =
    let exactly = pass_exactly (comparison_rows l i x) (passes l i x) in (
      λ e. let h = exactly.0 (sym same ∙ e) in (h.0, (by_products l i x).0 ((within l i x).0 h.1)),
      λ h. same ∙ exactly.1 (h.0, (within l i x).1 ((by_products l i x).1 h.1)),
    )

pub equal_comparisons : EqualComparisons
unfolding comparison_of
equal_comparisons l m i x p q e =
    simp (of_values l i x p, of_values m i x q, equal_limits l m i x (record { is_fraction = p; same = e }) q)
