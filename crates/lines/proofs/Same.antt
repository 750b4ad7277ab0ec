-- The test of bytes for being the same.
-- Assumes nothing.
use mathlib.Core.Path.{◌≡◌, refl, sym, ap, ap₂, ◌∙◌}
use mathlib.Core.Bool.{Bool, true, ◌&&◌}
use mathlib.Core.List.{List, [], ◌∷◌}
use Prim.Native.Nat.{ℕ}
use native.Mathlib.Omega.{arith}
use lib.Dec.{eqb}
use borrow.Author.Tests.{eq-eqb, eqb-true}
use Rattle.std.specs.Cmp.Lexicographic.{pointwise}
use Rattle.quantity.proofs.Conditions.{both}
use Rattle.quantity.proofs.Comparing.{same_equal}
use Rattle.lines.specs.Reading.{same_bytes}

pub same_refl : (xs : List ℕ) → same_bytes xs xs ≡ true
unfolding same_bytes
same_refl [] = refl
same_refl (x ∷ xs) = rw (eq-eqb x x refl) (same_refl xs)

pub same_true : (xs ys : List ℕ) → same_bytes xs ys ≡ true → xs ≡ ys
unfolding same_bytes
same_true [] [] e = refl
same_true [] (y ∷ ys) e = absurd (let z : ◌≡◌ {A = ℕ} 0 1 = cc e in omega arith)
same_true (x ∷ xs) [] e = absurd (let z : ◌≡◌ {A = ℕ} 0 1 = cc e in omega arith)
same_true (x ∷ xs) (y ∷ ys) e =
    let p = both (eqb x y) (same_bytes xs ys) e in
    ap (λ (a : ℕ). a ∷ xs) (eqb-true x y p.0) ∙ ap (λ (l : List ℕ). y ∷ l) (same_true xs ys p.1)

pub same_eq : (xs ys : List ℕ) → xs ≡ ys → same_bytes xs ys ≡ true
same_eq xs ys e = rw e (same_refl ys)

-- the library's test of two lists, from the other side
pub same_pointwise : (xs ys : List ℕ) → pointwise eqb ys xs ≡ same_bytes xs ys
unfolding same_bytes
same_pointwise [] [] = refl
same_pointwise [] (y ∷ ys) = refl
same_pointwise (x ∷ xs) [] = refl
same_pointwise (x ∷ xs) (y ∷ ys) =
    ap₂ (λ (a b : Bool). a && b) (same_equal y x x y (λ e. sym e) (λ g e. g (sym e))) (same_pointwise xs ys)
