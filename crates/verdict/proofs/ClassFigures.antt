-- What the figures of classes 1, 2 and 3 have in common, and which limit is a complete instrument's.
-- Assumes nothing.
use mathlib.Core.Logic.{◌↔◌}
use mathlib.Core.Path.{◌≡◌, refl}
use Prim.Native.Nat.{ℕ, ◌*◌, ◌≤◌}
use native.Mathlib.Omega.{arith}
use Rattle.std.proofs.lemmas.Bool.Decides.{nat_tests}
use Rattle.quantity.specs.Fractions.{whole, AtMost}
use Rattle.verdict.specs.Limit.{hundredths, fixed_cap, figures_of, complete_limit, part_limit, limit_of}
use Rattle.quantity.specs.declared.fraction.Fraction.{Fraction}
use Rattle.verdict.specs.declared.class.Figures.{Figures}
use Rattle.verdict.specs.declared.point.TestPoint.{TestPoint}

-- the constant is as many percent as the class's number, the cap 5
pub record OfClass (class : ℕ) (f : Figures) : Type 0 where
  pub constant_of : f.constant ≡ 100 * class
  pub cap_of : f.cap ≡ fixed_cap

pub of_class : (class : ℕ) → 1 ≤ class → class ≤ 3 → OfClass class (figures_of class)
unfolding figures_of
of_class class l m = record { constant_of = grind (arith, nat_tests); cap_of = grind (arith, nat_tests) }

-- the cap in hundredths of a percent, and in percent
pub capped_at_5 : (x : Fraction) (m : ℕ) → m ≡ fixed_cap → AtMost x (hundredths m) ↔ AtMost x (whole 5)
capped_at_5 x m e = rw e (λ h. omega arith, λ h. omega arith)

-- the limit of a complete instrument at verification
pub complete_at_verification : (f : Figures) (p : TestPoint) → p.part ≡ 4 → p.stage ≡ 1 → limit_of f p ≡ complete_limit f p
unfolding limit_of part_limit
complete_at_verification f p a b = rw (a, b) refl
