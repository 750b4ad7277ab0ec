-- W grows from 0 to 18000.
-- Assumes nothing.
use mathlib.Core.Path.{◌≡◌, subst}
use Prim.Native.Nat.{ℕ, suc, ◌+◌, ◌*◌, ◌≤◌, ◌<◌}
use native.Mathlib.Nat.{mul-le-mul_left, le_dest}
use native.Mathlib.Omega.{arith}
use Rattle.quantity.specs.Units.{last_hundredth}
use Rattle.platinum.specs.Temperature.{W}

-- what is taken off is never more than what is added, so that the difference of whole numbers in W, which would stop at 0, never does
pub square : (t : ℕ) → t ≤ last_hundredth → 5775 * t * t ≤ 103950000 * t
square t h = omega (arith, mul-le-mul_left t h)

between : (a x : ℕ) → a + suc x ≤ last_hundredth → W a < W (a + suc x)
unfolding W
between a x h =
    let two : a + (a + suc x) ≤ 2 * last_hundredth = omega arith in
    omega (arith, mul-le-mul_left (suc x) two, square a (omega arith), square (a + suc x) h)

grows : (a b : ℕ) → a < b → b ≤ last_hundredth → W a < W b
grows a b h l =
    let d = le_dest h in
    let e : a + suc d.0 ≡ b = omega (arith, d.1) in
    subst (λ (t : ℕ). W a < W t) e (between a d.0 (omega arith))

pub grows_or_stays : (a b : ℕ) → a ≤ b → b ≤ last_hundredth → W a ≤ W b
grows_or_stays a b h l = grind (arith, grows a b)
