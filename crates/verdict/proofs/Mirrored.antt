-- Values as far above as below the conventional true value, I and 2X−I, get the same verdict.
-- Assumes nothing.
use mathlib.Core.Path.{◌≡◌, ap}
use Prim.Native.Nat.{ℕ, ◌+◌, ◌*◌, ◌≤◌}
use native.Mathlib.Omega.{arith}
use borrow.Author.Tests.{le-ltb}
use Rattle.verdict.specs.Limit.{figures_of, limit_of}
use Rattle.verdict.specs.Rows.{largest_value, value_outside}
use Rattle.verdict.specs.Verdict.{passes, verdict_of}
use Rattle.quantity.specs.Fractions.{whole, times, is_at_most}
use Rattle.quantity.specs.declared.fraction.Fraction.{Fraction}
use Rattle.verdict.specs.Theorems.{Mirrored}

same_pass : (l : Fraction) (i j x : ℕ) → i + j ≡ 2 * x → passes l i x ≡ passes l j x
unfolding passes
same_pass l i j x e = ap (λ (d : ℕ). is_at_most (whole (d * 100)) (times l (whole x))) (omega arith)

same_rows : (i j x : ℕ) → i ≤ largest_value → j ≤ largest_value → value_outside i x ≡ value_outside j x
unfolding value_outside
same_rows i j x p q = simp (le-ltb largest_value i p, le-ltb largest_value j q)

pub mirrored : Mirrored
unfolding verdict_of
mirrored p i j x e a b = simp (same_rows i j x a b, same_pass (limit_of (figures_of p.class) p) i j x e)
