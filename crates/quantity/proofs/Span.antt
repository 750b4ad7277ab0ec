-- A range's rule by a computed test: a test that passes at each number of a span, and the law that gives it at one of them.
-- Assumes nothing.
use mathlib.Core.Path.{◌∙◌, subst, subst₂, sym}
use mathlib.Core.Bool.{Bool, true, false, ◌&&◌}
use Prim.Native.Nat.{ℕ, zero, suc, ◌+◌, ◌<◌}
use native.Mathlib.Nat.{add-zero, zero-add, add-suc, suc-add, le_of_suc-le-suc, not-suc-le-zero}
use lib.Dec.{T}

first : (a b : Bool) → T (a && b) → T a
first true b t = tt
first false b t = t

second : (a b : Bool) → T (a && b) → T b
second true b t = t
second false b t = absurd t

together : (a b : Bool) → T a → T b → T (a && b)
together true b s t = t
together false b s t = s

-- the test f passes at the n numbers from i on
abbrev pub span : (ℕ → Bool) → ℕ → ℕ → Bool
span f i zero = true
span f i (suc n) = f i && span f (suc i) n

within : (f : ℕ → Bool) (n i : ℕ) → T (span f i n) → (k : ℕ) → k < n → T (f (i + k))
within f zero i t k h = absurd (not-suc-le-zero h)
within f (suc n) i t zero h = subst (λ (m : ℕ). T (f m)) (sym (add-zero i)) (first (f i) (span f (suc i) n) t)
within f (suc n) i t (suc k) h =
    subst (λ (m : ℕ). T (f m)) (suc-add i k ∙ sym (add-suc i k))
    (within f n (suc i) (second (f i) (span f (suc i) n) t) k (le_of_suc-le-suc h))

-- a test that passes at the first n numbers passes at each of them
pub below : (f : ℕ → Bool) (n : ℕ) → T (span f 0 n) → (k : ℕ) → k < n → T (f k)
below f n t k h = subst (λ (m : ℕ). T (f m)) (zero-add k) (within f n 0 t k h)

-- two spans, one after the other, are one: a long test is computed in parts
pub join : (f : ℕ → Bool) (m n i : ℕ) → T (span f i m) → T (span f (i + m) n) → T (span f i (m + n))
join f zero n i s t = subst₂ (λ (a b : ℕ). T (span f a b)) (add-zero i) (sym (zero-add n)) t
join f (suc m) n i s t =
    subst (λ (a : ℕ). T (span f i a)) (sym (suc-add m n))
    (together (f i) (span f (suc i) (m + n)) (first (f i) (span f (suc i) m) s)
    (join f m n (suc i) (second (f i) (span f (suc i) m) s) (subst (λ (a : ℕ). T (span f a n)) (add-suc i m ∙ sym (suc-add i m)) t)))
