-- The largest temperature whose ratio of the curve is at most a given one.
-- Assumes nothing.
use mathlib.Core.Path.{◌≡◌, ap, fun_ext}
use mathlib.Core.Bool.{Bool}
use Prim.Native.Nat.{ℕ, ◌*◌, ◌/◌, ◌≤◌, ◌<◌}
use native.Mathlib.Nat.{le-div_iff_mul-le, div-lt_iff_lt-mul}
use native.Mathlib.Omega.{arith}
use lib.Dec.{leb, lit≤}
use borrow.Author.Tests.{le-leb, leb-true}
use Rattle.quantity.proofs.Comparing.{same_at_most}
use Rattle.quantity.proofs.Largest.{bounded, holds, at_least}
use Rattle.quantity.specs.Largest.{largest}
use Rattle.quantity.specs.Units.{last_hundredth}
use Rattle.platinum.specs.Temperature.{W}
use Rattle.platinum.proofs.Growth.{grows_or_stays}

abbrev reaches : ℕ → ℕ → Bool
reaches ratio t = leb (W t) ratio

-- the temperature of a ratio
abbrev pub answer_of : ℕ → ℕ
answer_of ratio = largest (reaches ratio) last_hundredth

module _ (ratio : ℕ) where
  pub answer_bounded : answer_of ratio ≤ last_hundredth
  answer_bounded = bounded (reaches ratio) last_hundredth

  -- the curve there is at most the ratio ..
  pub answer_reached : W 0 ≤ ratio → W (answer_of ratio) ≤ ratio
  answer_reached h = leb-true _ _ (holds (reaches ratio) last_hundredth 0 (lit≤ tt) (le-leb (W 0) ratio h))

  -- .. and at nothing above it
  pub answer_largest : (t : ℕ) → t ≤ last_hundredth → W t ≤ ratio → t ≤ answer_of ratio
  answer_largest t l h = at_least (reaches ratio) last_hundredth t l (le-leb (W t) ratio h)

  -- so a t at which the curve lies above the ratio is above the answer
  pub above_answer : (t : ℕ) → W 0 ≤ ratio → ratio < W t → answer_of ratio < t
  above_answer t h g = grind (arith, answer_reached h, grows_or_stays t (answer_of ratio), answer_bounded)

-- n × W(t) is at most x exactly where W(t) is at most x / n, rounded down
pub by_division : (n x b : ℕ) → 0 < n → largest (reaches (x / n)) b ≡ largest (λ t. leb (n * W t) x) b
by_division n x b p =
    ap (λ test. largest test b)
    (fun_ext
    (λ t. same_at_most (W t) (x / n) (n * W t) x
    (λ h. omega (arith, (le-div_iff_mul-le {k = n} {x = W t} {y = x} p).0 h))
    (λ h. omega (arith, (div-lt_iff_lt-mul {k = n} {x = x} {y = W t} p).0 h))))
