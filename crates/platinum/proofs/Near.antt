-- The ratio of a reading: one between the ends has a temperature, which is that of the reading.
-- Assumes nothing.
use mathlib.Core.Path.{◌≡◌, ◌∙◌, ap}
use mathlib.Core.Bool.{false}
use Prim.Native.Nat.{ℕ, ◌*◌, ◌<◌}
use native.Mathlib.Nat.{div-le_of_le-mul}
use native.Mathlib.Omega.{arith}
use Rattle.std.proofs.lemmas.Nat.{le-div}
use lib.Dec.{ltb}
use Rattle.std.specs.Prelude.{Ok}
use Rattle.quantity.specs.Units.{last_hundredth}
use Rattle.platinum.specs.Temperature.{W, scaled, of_resistance, HasTemperature}
use Rattle.platinum.specs.Line.{ratio_of, BetweenEnds}
use Rattle.platinum.proofs.Ratios.{answer_of, by_division}

pub between_ends : (n r : ℕ) → 0 < n → HasTemperature n r → BetweenEnds (ratio_of n r)
between_ends n r p h = (le-div (W 0) (scaled r) n p (omega (arith, h.from)), div-le_of_le-mul n h.to)

-- past the two tests of `of_resistance`
pub found : (n r x : ℕ) → 0 < n → ltb (scaled r) (n * W 0) ≡ false → ltb (n * W last_hundredth) (scaled r) ≡ false → x ≡ answer_of (ratio_of n r) → Ok (record { 0 = x }) ≡ of_resistance n r
unfolding of_resistance
found n r x p low high e = simp (low, high) (ap (λ (t : ℕ). Ok (record { 0 = t })) (e ∙ by_division n (scaled r) last_hundredth p))
