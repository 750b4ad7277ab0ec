-- Two comparisons that say the same are the same Bool.
-- Assumes nothing.
use mathlib.Core.Path.{◌≡◌, refl, sym}
use mathlib.Core.Bool.{Bool, true, false, not, not-not}
use Prim.Native.Nat.{ℕ, ◌≤◌, ◌<◌}
use lib.Dec.{ltb, leb, eqb}
use borrow.Author.Tests.{lt-ltb, le-ltb, le-leb, lt-leb, ltb-true, ltb-false, leb-true, leb-false, eq-eqb, ne_eqb, eqb-true, eqb-false}

same : (s t : Bool) → (s ≡ true → t ≡ true) → (s ≡ false → t ≡ false) → s ≡ t
same true t f g = sym (f refl)
same false t f g = sym (g refl)

pub same_order : (x y p q : ℕ) → (x < y → p < q) → (y ≤ x → q ≤ p) → ltb x y ≡ ltb p q
same_order x y p q f g = same (ltb x y) (ltb p q) (λ e. lt-ltb p q (f (ltb-true x y e))) (λ e. le-ltb p q (g (ltb-false x y e)))

pub same_at_most : (x y p q : ℕ) → (x ≤ y → p ≤ q) → (y < x → q < p) → leb x y ≡ leb p q
same_at_most x y p q f g = same (leb x y) (leb p q) (λ e. le-leb p q (f (leb-true x y e))) (λ e. lt-leb p q (g (leb-false x y e)))

-- more than is not at most, and at least is not below
pub not_at_most : (a b : ℕ) → ltb b a ≡ not (leb a b)
not_at_most a b = go (leb a b) refl
  where
    go : (t : Bool) → leb a b ≡ t → ltb b a ≡ not t
    go true e = le-ltb b a (leb-true a b e)
    go false e = lt-ltb b a (leb-false a b e)

pub not_below : (a b : ℕ) → not (ltb a b) ≡ leb b a
not_below a b = rw (not_at_most b a) (not-not (leb b a))

pub same_equal : (x y p q : ℕ) → (x ≡ y → p ≡ q) → ((x ≡ y → ⊥) → p ≡ q → ⊥) → eqb x y ≡ eqb p q
same_equal x y p q f g = same (eqb x y) (eqb p q) (λ e. eq-eqb p q (f (eqb-true x y e))) (λ e. ne_eqb p q (g (eqb-false x y e)))
