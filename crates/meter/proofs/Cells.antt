-- Laws of the cells of a day profile: one of them raised, all of them together, and none above a limit.
-- Assumes nothing.
use mathlib.Core.Path.{◌≡◌, refl, ap}
use mathlib.Core.Bool.{false}
use mathlib.Core.List.{List, [], ◌∷◌}
use Prim.Native.Nat.{ℕ, zero, suc, ◌+◌, ◌≤◌, ◌<◌}
use native.Mathlib.Nat.{add-zero}
use native.Mathlib.Omega.{arith}
use lib.Dec.{ltb}
use lib.ListN.{length, replicate}
use borrow.Author.Tests.{le-ltb, ltb-false}
use Rattle.std.specs.List.{list_any, sum}
use Rattle.std.proofs.lemmas.List.Sums.{sum_by-cons}
use Rattle.quantity.proofs.Conditions.{neither}
use Rattle.meter.specs.Profile.{cell_at, raised_at}

-- raised by nothing, a cell stays as it is
pub raised_by_none : (cells : List ℕ) (i : ℕ) → raised_at cells i 0 ≡ cells
raised_by_none [] i = refl
raised_by_none (x ∷ xs) zero = ap (λ (y : ℕ). y ∷ xs) (add-zero x)
raised_by_none (x ∷ xs) (suc i) = ap (λ (l : List ℕ). x ∷ l) (raised_by_none xs i)

sum_cons : (x : ℕ) (xs : List ℕ) → sum (x ∷ xs) ≡ x + sum xs
sum_cons x xs = sum_by-cons (λ (y : ℕ). y) x xs

-- one cell raised, the sum is raised as much
pub sum_raised : (cells : List ℕ) (i n : ℕ) → i < length cells → sum (raised_at cells i n) ≡ sum cells + n
sum_raised [] i n h = absurd (omega arith)
sum_raised (x ∷ xs) zero n h = omega (arith, sum_cons x xs, sum_cons (x + n) xs)
sum_raised (x ∷ xs) (suc i) n h = omega (arith, sum_cons x xs, sum_cons x (raised_at xs i n), sum_raised xs i n (omega arith))

-- no cell is more than the sum
pub cell_at_most : (cells : List ℕ) (i : ℕ) → cell_at cells i ≤ sum cells
cell_at_most [] i = omega arith
cell_at_most (x ∷ xs) zero = omega (arith, sum_cons x xs)
cell_at_most (x ∷ xs) (suc i) = omega (arith, sum_cons x xs, cell_at_most xs i)

-- and the sum of zeros is none
pub sum_zeros : (n : ℕ) → sum (replicate n 0) ≡ 0
sum_zeros zero = refl
sum_zeros (suc n) = omega (arith, sum_cons 0 (replicate n 0), sum_zeros n)

-- none is above a limit exactly where each is at most it
pub none_above : (limit : ℕ) (cells : List ℕ) → list_any (λ (cell : ℕ). ltb limit cell) cells ≡ false → (k : ℕ) → k < length cells → cell_at cells k ≤ limit
none_above limit [] h k g = absurd (omega arith)
none_above limit (x ∷ xs) h zero g = ltb-false limit x (neither (ltb limit x) (list_any (λ (cell : ℕ). ltb limit cell) xs) h).0
none_above limit (x ∷ xs) h (suc k) g = none_above limit xs (neither (ltb limit x) (list_any (λ (cell : ℕ). ltb limit cell) xs) h).1 k (omega arith)

pub all_at_most : (limit : ℕ) (cells : List ℕ) → ((k : ℕ) → cell_at cells k ≤ limit) → list_any (λ (cell : ℕ). ltb limit cell) cells ≡ false
all_at_most limit [] h = refl
all_at_most limit (x ∷ xs) h = simp (le-ltb limit x (h 0), all_at_most limit xs (λ k. h (suc k)))
