-- The floor of a fraction whose product passes 64 bits, by parts; the contract stays the plain floor.
-- Assumes nothing.
use mathlib.Core.Path.{◌≡◌, ◌∙◌, ap, sym}
use Prim.Native.Nat.{ℕ, ◌+◌, ◌*◌, ◌/◌, ◌%◌, ◌<◌}
use native.Mathlib.Nat.{div-add-mod', mul-add-div_right}
use native.Mathlib.Omega.{arith}

-- k × a over b, from the quotient and the remainder of a by b
pub by_parts : (k a b : ℕ) → 0 < b → k * (a / b) + k * (a % b) / b ≡ k * a / b
by_parts k a b p =
    let e : k * (a / b) * b + k * (a % b) ≡ k * a = omega (arith, ap (λ (x : ℕ). k * x) (div-add-mod' a b)) in
    sym (mul-add-div_right p (k * (a / b)) (k * (a % b))) ∙ ap (λ (x : ℕ). x / b) e
