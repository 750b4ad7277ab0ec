-- A list is the list of its elements.
-- Assumes nothing.
use mathlib.Core.Path.{◌≡◌, sym, ◌∙◌, ap}
use mathlib.Core.List.{List, [], ◌∷◌}
use Prim.Native.Nat.{ℕ, zero, suc, ◌+◌}
use native.Mathlib.Omega.{arith}
use lib.ListN.{length, get_or, drop}
use lib.Seq.{drop-cons, drop-length}

-- the n elements from i on
abbrev pub elements : List ℕ → ℕ → ℕ → List ℕ
elements l i zero = []
elements l i (suc n) = get_or l i 0 ∷ elements l (suc i) n

from : (l : List ℕ) (i n : ℕ) → i + n ≡ length l → elements l i n ≡ drop i l
from l i zero e =
    let at_end : i ≡ length l = omega arith in
    sym (ap (λ (k : ℕ). drop k l) at_end ∙ drop-length l)
from l i (suc n) e = ap (λ (t : List ℕ). get_or l i 0 ∷ t) (from l (suc i) n (omega arith)) ∙ sym (drop-cons l i 0 (omega arith))

pub all : (l : List ℕ) (n : ℕ) → length l ≡ n → elements l 0 n ≡ l
all l n e = from l 0 n (omega arith)
