-- Counts that are capped above their limit, so that they fit 64 bits.
-- Assumes nothing.
use mathlib.Core.Path.{◌≡◌}
use Prim.Native.Nat.{ℕ, ◌<◌, min}
use native.Mathlib.Omega.{arith}
use lib.Dec.{ltb, eqb}
use Rattle.quantity.proofs.Comparing.{same_order, same_equal}

-- whether a count passes its limit, or equals it, is seen of the capped one
pub passes : (limit cap n : ℕ) → limit < cap → ltb limit (min n cap) ≡ ltb limit n
passes limit cap n l = same_order limit (min n cap) limit n (λ h. omega arith) (λ h. omega arith)

pub equals : (limit cap n : ℕ) → limit < cap → eqb (min n cap) limit ≡ eqb n limit
equals limit cap n l = same_equal (min n cap) limit n limit (λ h. omega arith) (λ h e. h (omega arith))
