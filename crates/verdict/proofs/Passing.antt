-- Laws of a pass.
-- Assumes nothing.
use mathlib.Core.Path.{◌≡◌, sym}
use mathlib.Core.Bool.{true}
use mathlib.Core.Logic.{◌↔◌}
use Rattle.std.specs.Cmp.{both_ways}
use Prim.Native.Nat.{ℕ, ◌*◌, ◌≤◌}
use native.Mathlib.Nat.{le_of_eq}
use native.Mathlib.Omega.{arith}
use borrow.Author.Tests.{le-leb, leb-true}
use Rattle.quantity.proofs.Fractions.{transitive}
use Rattle.quantity.specs.Fractions.{◌over◌, whole, IsFraction, times, AtMost, Represents}
use Rattle.verdict.specs.Verdict.{absolute_error, passes}
use Rattle.quantity.specs.declared.fraction.Fraction.{Fraction}

-- |I−X|×100 ≤ limit×X, as a statement
abbrev pub Within : Fraction → ℕ → ℕ → Type 0
Within l i x = AtMost (whole (absolute_error i x * 100)) (times l (whole x))

pub within : (l : Fraction) (i x : ℕ) → (passes l i x ≡ true) ↔ Within l i x
unfolding passes
within l i x = (λ e. leb-true _ _ e, λ h. le-leb _ _ h)

-- and without the fractions
pub by_products : (l : Fraction) (i x : ℕ) → Within l i x ↔ (absolute_error i x * 100 * l.denominator ≤ l.numerator * x)
unfolding times
by_products l i x = (λ h. omega (arith, h), λ h. omega (arith, h))

-- what passes a limit passes a wider one
pub wider : (l m : Fraction) (i x : ℕ) → IsFraction l → AtMost l m → Within l i x → Within m i x
unfolding times
wider l m i x p h passed =
    let error = absolute_error i x * 100 over x in
    let within : AtMost error l = omega (arith, passed) in
    omega (arith, transitive error l m p within h)

-- equal limits are passed alike, so a verdict does not depend on how its limit is written as a fraction
pub equal_limits : (l m : Fraction) (i x : ℕ) → Represents l m → IsFraction m → passes l i x ≡ passes m i x
equal_limits l m i x r p =
    both_ways _ _ (λ e. (within m i x).1 (wider l m i x r.is_fraction (le_of_eq r.same) ((within l i x).0 e)))
    (λ e. (within l i x).1 (wider m l i x p (le_of_eq (sym r.same)) ((within m i x).0 e)))
