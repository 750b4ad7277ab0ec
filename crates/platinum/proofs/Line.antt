-- The straight line that joins the curve's ends, and how much the curve lies above it.
-- Assumes nothing.
use mathlib.Core.Path.{◌≡◌, ap}
use Prim.Native.Nat.{ℕ, ◌+◌, ◌-◌, ◌*◌, ◌≤◌}
use native.Mathlib.Nat.{mul-le-mul_left, le_dest}
use native.Mathlib.Omega.{arith}
use Rattle.quantity.specs.Units.{last_hundredth}
use Rattle.platinum.specs.Temperature.{W}
use Rattle.platinum.specs.Line.{slope, line_at, above_line}
use Rattle.platinum.proofs.Growth.{square}

-- in powers of t, without a difference in a product
by_powers : (t : ℕ) → t ≤ last_hundredth → above_line t + 5775 * t * t ≡ 103950000 * t
by_powers t h =
    let d = le_dest h in
    let e : last_hundredth - t ≡ d.0 = omega (arith, d.1) in
    omega (arith, ap (λ k. 5775 * t * k) e, ap (λ k. t * k) d.1)

-- so it is no more than the line has risen
pub below_line : (t : ℕ) → t ≤ last_hundredth → above_line t ≤ slope * t
below_line t h = omega (arith, by_powers t h)

pub curve_above_line : (t : ℕ) → t ≤ last_hundredth → W t ≡ line_at t + above_line t
unfolding W
curve_above_line t h = omega (arith, by_powers t h, square t h)

-- it differs by no more than this from one hundredth to the next
abbrev pub most_change : ℕ
most_change = 5775 * last_hundredth

module _ (a b : ℕ) (h : a ≤ b) (l : b ≤ last_hundredth) where
  -- it rises by 5775 × (b − a) × (18000 − a − b)
  differ : (d : ℕ) × (a + d ≡ b) × (above_line b + 5775 * (d * (a + b)) ≡ above_line a + most_change * d)
  differ =
      let d = le_dest h in
      (d.0, d.1, omega (arith, by_powers a (omega arith), by_powers b l, ap (λ k. d.0 * k) d.1, ap (λ k. a * k) d.1, ap (λ k. b * k) d.1))

  -- so it is no less at b, where b is no farther from the middle than a ..
  pub rises : a + b ≤ last_hundredth → above_line a ≤ above_line b
  rises g = let d = differ in omega (arith, d.2, mul-le-mul_left d.0 g)

  -- .. and no more, where a is no farther
  pub falls : last_hundredth ≤ a + b → above_line b ≤ above_line a
  falls g = let d = differ in omega (arith, d.2, mul-le-mul_left d.0 g)

  rises_little : above_line b ≤ above_line a + most_change * (b - a)
  rises_little = let d = differ in omega (arith, d.1, d.2)

  falls_little : above_line a ≤ above_line b + most_change * (b - a)
  falls_little =
      let d = differ in
      let g : a + b ≤ 2 * last_hundredth = omega arith in
      omega (arith, d.1, d.2, mul-le-mul_left d.0 g)

  -- around the middle, between points that lie near each other, it falls by no more than 5775 × 124 × 124
  pub falls_less : b ≤ a + 124 → a + b ≤ last_hundredth + 124 → above_line a ≤ above_line b + 5775 * 124 * 124
  falls_less n g = let d = differ in omega (arith, d.1, d.2, mul-le-mul_left d.0 g)

-- at two points that lie near each other it is nearly the same
pub differs_little : (a b k : ℕ) → a ≤ last_hundredth → b ≤ last_hundredth → a ≤ b + k → b ≤ a + k → above_line a ≤ above_line b + most_change * k
differs_little a b k h l f g = grind (arith, falls_little a b, rises_little b a)

-- it is most in the middle
pub most : (t : ℕ) → t ≤ last_hundredth → above_line t ≤ above_line 9000
most t l = grind (arith, rises t 9000, falls 9000 t)
