-- Laws of `largest`.
-- Assumes nothing.
use mathlib.Core.Path.{◌≡◌, refl, ap, subst}
use mathlib.Core.Bool.{Bool, true, false}
use Prim.Native.Nat.{ℕ, zero, suc, ◌≤◌, ◌<◌}
use native.Mathlib.Nat.{le_refl, le_of_eq, eq-or-lt_of_le}
use mathlib.Core.Logic.{◌⊎◌, inl, inr}
use native.Mathlib.Omega.{arith}
use Rattle.quantity.specs.Largest.{largest}

-- where the test holds at the top, that is the largest
at_top : (p : ℕ → Bool) (t : ℕ) → p t ≡ true → largest p t ≡ t
unfolding largest
at_top p zero e = refl
at_top p (suc t) e = rw (e, largest)

lower : (p : ℕ → Bool) (t : ℕ) → p (suc t) ≡ false → largest p (suc t) ≡ largest p t
unfolding largest
lower p t e = rw (e, largest)

-- it is at most the top
pub bounded : (p : ℕ → Bool) (b : ℕ) → largest p b ≤ b
unfolding largest
bounded p zero = le_refl zero
bounded p (suc b) = go (p (suc b)) refl (bounded p b)
  where
    go : (t : Bool) → p (suc b) ≡ t → largest p b ≤ b → largest p (suc b) ≤ suc b
    go true e h = le_of_eq (at_top p (suc b) e)
    go false e h = rw (lower p b e) (omega arith)

-- where it holds somewhere, but not at the top, the place is below the top
below_top : (p : ℕ → Bool) (b s : ℕ) → s ≤ suc b → p s ≡ true → p (suc b) ≡ false → s ≤ b
below_top p b s h e q = go (eq-or-lt_of_le h)
  where
    go : (s ≡ suc b) ⊎ (s < suc b) → s ≤ b
    go (inl g) = let z : ◌≡◌ {A = ℕ} 0 1 = cc (ap p g) in omega arith
    go (inr g) = omega arith

found : (p : ℕ → Bool) (b s : ℕ) → s ≤ b → p s ≡ true → (p (largest p b) ≡ true) × (s ≤ largest p b)
unfolding largest
found p zero s h e = (subst (λ (x : ℕ). p x ≡ true) (omega arith) e, h)
found p (suc b) s h e = go (p (suc b)) refl (found p b s)
  where
    go : (t : Bool) → p (suc b) ≡ t → (s ≤ b → p s ≡ true → (p (largest p b) ≡ true) × (s ≤ largest p b)) → (p (largest p (suc b)) ≡ true) × (s ≤ largest p (suc b))
    go true q f = rw (at_top p (suc b) q) (q, h)
    go false q f = rw (lower p b q) (f (below_top p b s h e q) e)

-- where it holds somewhere, it holds at the largest ..
pub holds : (p : ℕ → Bool) (b s : ℕ) → s ≤ b → p s ≡ true → p (largest p b) ≡ true
holds p b s h e = (found p b s h e).0

-- .. and at nothing larger
pub at_least : (p : ℕ → Bool) (b s : ℕ) → s ≤ b → p s ≡ true → s ≤ largest p b
at_least p b s h e = (found p b s h e).1
