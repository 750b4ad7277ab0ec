-- The straight line that joins the curve's two ends, W(0) and W(18000). The search for a temperature begins near it, since the curve is never far
-- from it. What the operation answers does not rest on this file; where its search begins does. In place of readings stand resistance ratios, in
-- the units of W, so that one search serves every sensor kind.
use Rattle.std.specs.Prelude.{ℕ, ◌+◌, ◌-◌, ◌*◌, ◌/◌, ◌≤◌}
use Rattle.quantity.specs.Units.{last_hundredth}
use Rattle.platinum.specs.Temperature.{W, scaled}

-- By how much the line rises in a hundredth of a degree: W(18000) less W(0), over 18000. Nothing is left of the division.
abbrev pub slope : ℕ
slope = 3804350000

-- The line's resistance ratio at t.
abbrev pub line_at : ℕ → ℕ
line_at t = W 0 + slope * t

-- By how much the curve lies above the line at t (`curve_above_line` of proofs/Line.antt): by nothing at both ends, and by the most halfway.
abbrev pub above_line : ℕ → ℕ
above_line t = 5775 * t * (last_hundredth - t)

-- The resistance ratio of a reading r, for a sensor with n ohm at 0 °C, rounded down. It has the temperature that the reading has.
abbrev pub ratio_of : ℕ → ℕ → ℕ
ratio_of n r = scaled r / n

-- A ratio that has a temperature: it is neither below the low end of the curve nor above the high end.
abbrev pub BetweenEnds : ℕ → Type 0
BetweenEnds ratio = (W 0 ≤ ratio) × (ratio ≤ W last_hundredth)

-- The temperature at which the line has a ratio, rounded down to a hundredth of a degree.
unfoldable pub line_point : ℕ → ℕ
line_point ratio = (ratio - W 0) / slope

-- The temperature that a ratio would have if the curve lay above the line everywhere by as much as it does at t. The search takes this step twice,
-- from the line's point on, and is then at the answer or one hundredth above it. For a ratio between the ends, and for t up to the line's point, no
-- difference here stops at 0 (`fits` of proofs/Start.antt).
unfoldable pub next_from : ℕ → ℕ → ℕ
next_from ratio t = line_point (ratio - above_line t)
