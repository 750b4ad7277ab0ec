-- Parts of a slice that are lent on or handed back.
-- Assumes nothing.
use mathlib.Core.Path.{◌≡◌, ap, ◌∙◌}
use mathlib.Core.List.{List}
use Prim.Native.Nat.{ℕ, ◌-◌}
use native.Mathlib.Omega.{arith}
use lib.ListN.{length, take, drop, length-drop}
use lib.Seq.{take_all}

-- all that follows a position
pub rest_all : (bs : List ℕ) (at : ℕ) → take (length bs - at) (drop at bs) ≡ drop at bs
rest_all bs at = take_all (length bs - at) (drop at bs) (omega (arith, length-drop at bs))

-- and how long that is
pub rest_length : (bs : List ℕ) (at : ℕ) → length (take (length bs - at) (drop at bs)) ≡ length bs - at
rest_length bs at = ap (λ (l : List ℕ). length l) (rest_all bs at) ∙ length-drop at bs
