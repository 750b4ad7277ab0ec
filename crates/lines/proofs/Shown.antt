-- Numbers of which the first so many are shown, and the others are zero: they are known by those that are shown.
-- Assumes nothing.
use mathlib.Core.Path.{◌≡◌, refl, sym, ◌∙◌, ap, ap₂}
use mathlib.Core.Bool.{Bool, false, ◌||◌}
use mathlib.Core.List.{List, [], ◌∷◌, ◌++◌}
use Prim.Native.Nat.{ℕ, zero, suc, ◌+◌, ◌≤◌, ◌<◌}
use native.Mathlib.Omega.{arith}
use lib.Dec.{leb}
use lib.ListN.{length, get_or, take, drop, replicate, take-append-drop, get_or-eq_default}
use lib.Seq.{drop-cons, drop-length, get_or-drop}
use borrow.Author.Tests.{leb-false}
use Rattle.quantity.proofs.Conditions.{neither}
use Rattle.meter.proofs.Elements.{elements}
use Rattle.lines.specs.Number.{some_nonzero}

-- places that say nothing
abbrev pub AreZero : List ℕ → Type 0
AreZero zs = (i : ℕ) → get_or zs i 0 ≡ 0

pub zeros_left : (n k : ℕ) → AreZero (drop n (replicate k 0))
zeros_left n k i = get_or-drop n (replicate k 0) i 0 ∙ all_zero k (n + i)
  where
    all_zero : (k : ℕ) → AreZero (replicate k 0)
    all_zero zero i = refl
    all_zero (suc k) zero = refl
    all_zero (suc k) (suc i) = all_zero k i

-- LAW: they change nothing behind other numbers
pub zero_after : (ns zs : List ℕ) → AreZero zs → (i : ℕ) → get_or (ns ++ zs) i 0 ≡ get_or ns i 0
zero_after [] zs z i = z i
zero_after (n ∷ ns) zs z zero = refl
zero_after (n ∷ ns) zs z (suc i) = zero_after ns zs z i

-- so are numbers none of which is other than zero
none_other : (ns : List ℕ) → some_nonzero ns ≡ false → AreZero ns
none_other [] h i = refl
none_other (n ∷ ns) h zero =
    let below : n < 1 = leb-false 1 n (neither (leb 1 n) _ h).0 in
    omega arith
none_other (n ∷ ns) h (suc i) = none_other ns (neither (leb 1 n) _ h).1 i

-- LAW: where the others are zero, the numbers that are shown say them all
pub as_shown : (k : ℕ) (ns : List ℕ) (i : ℕ) → some_nonzero (drop k ns) ≡ false → get_or (take k ns) i 0 ≡ get_or ns i 0
as_shown k ns i h =
    sym (zero_after (take k ns) (drop k ns) (none_other (drop k ns) h) i) ∙ ap (λ (l : List ℕ). get_or l i 0) (take-append-drop k ns)

-- beyond a list's end there are zeros only
none_beyond : (ns : List ℕ) (i n : ℕ) → length ns ≤ i → some_nonzero (elements ns i n) ≡ false
none_beyond ns i zero h = refl
none_beyond ns i (suc n) h =
    ap₂ (λ (x : ℕ) (b : Bool). leb 1 x || b) (get_or-eq_default ns 0 {n = i} h) (none_beyond ns (suc i) n (omega arith))

-- LAW: of n numbers, the first k of which are those of a list and the others those beyond its end, k are shown as they are and the others are zero
pub shown_first : (ns : List ℕ) (i k n : ℕ) → i + k ≡ length ns → k ≤ n →
    (take k (elements ns i n) ≡ drop i ns) × (some_nonzero (drop k (elements ns i n)) ≡ false)
shown_first ns i zero n e h =
    let at_end : i ≡ length ns = omega arith in
    (sym (ap (λ (j : ℕ). drop j ns) at_end ∙ drop-length ns), none_beyond ns i n (omega arith))
shown_first ns i (suc k) zero e h = absurd (omega arith)
shown_first ns i (suc k) (suc n) e h =
    let rest = shown_first ns (suc i) k n (omega arith) (omega arith) in
    (ap (λ (t : List ℕ). get_or ns i 0 ∷ t) rest.0 ∙ sym (drop-cons ns i 0 (omega arith)), rest.1)
