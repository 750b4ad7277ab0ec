-- Where the search begins, at the line's point, and where its first two tries lead: to the temperature of the ratio or one hundredth above it.
-- Assumes nothing.
use Prim.Native.Nat.{ℕ, suc, ◌+◌, ◌-◌, ◌≤◌, ◌<◌}
use native.Mathlib.Nat.{le_refl}
use native.Mathlib.Omega.{arith}
use Rattle.quantity.specs.Units.{last_hundredth}
use Rattle.platinum.specs.Temperature.{W}
use Rattle.platinum.specs.Line.{line_at, above_line, BetweenEnds, line_point, next_from}
use Rattle.platinum.proofs.Ratios.{answer_of, answer_bounded, answer_reached, answer_largest}
use Rattle.platinum.proofs.Line.{curve_above_line, below_line, most_change, rises, falls, falls_less, differs_little, most}

-- what the line tells of a ratio and its temperature t
record ByLine (ratio t : ℕ) : Type 0 where
  in_range : t ≤ last_hundredth
  to_end : ratio ≤ line_at last_hundredth
  from : line_at t + above_line t ≤ ratio
  to : ratio < line_at (suc t) + above_line t + most_change

-- p is the line's point for the ratio less `off`
record Point (ratio off p : ℕ) : Type 0 where
  from : line_at p + off ≤ ratio
  to : ratio < line_at (suc p) + off

-- l is the line's point
module _ (ratio t : ℕ) (m : ByLine ratio t) (l : ℕ) (x : Point ratio 0 l) where
  line_from : t ≤ l
  line_from = omega (arith, m.from, x.to)

  line_to : l ≤ t + 124
  line_to = omega (arith, m.to, x.from, most t m.in_range)

  line_end : l ≤ last_hundredth
  line_end = omega (arith, m.to_end, x.from)

  -- f is the next from it
  module _ (f : ℕ) (y : Point ratio (above_line l) f) where
    nearer_below : f ≤ l
    nearer_below = omega (arith, y.from, x.to)

    nearer_end : f ≤ last_hundredth
    nearer_end = omega (arith, nearer_below, line_end)

    nearer_from : t ≤ f + 4
    nearer_from = omega (arith, m.from, y.to, differs_little l t 124 line_end m.in_range line_to (omega (arith, line_from)))

    nearer_to : f ≤ t + 4
    nearer_to = omega (arith, m.to, y.from, differs_little t l 124 m.in_range line_end (omega (arith, line_from)) line_to)

    -- Even if the curve lay above the line at t by as much as it does at f, the ratio would reach it. For where f is no nearer to the middle
    -- than t, that is no more than at t; otherwise, past the middle, f is t itself, since at l the curve lies above the line by no more than at t;
    -- and before it, f lies above t, and from f to l the curve nears the line by less than the line rises in a hundredth.
    reached : line_at t + above_line f ≤ ratio
    reached = grind (arith, m.from, y.from, y.to, rises f t, falls t f, falls t l, falls_less f l, line_from, line_to, line_end, nearer_below, nearer_end, m.in_range)

    -- s is the next from that
    module _ (s : ℕ) (z : Point ratio (above_line f) s) where
      nearest_from : t ≤ s
      nearest_from = omega (arith, reached, z.to)

      nearest_to : s ≤ suc t
      nearest_to = omega (arith, m.to, z.from, differs_little t f 4 m.in_range nearer_end nearer_from nearer_to)

      nearest_end : s ≤ last_hundredth
      nearest_end = omega (arith, z.from, x.to, line_end)

point : (ratio off : ℕ) → W 0 + off ≤ ratio → Point ratio off (line_point (ratio - off))
unfolding line_point
point ratio off h = record { from = omega arith; to = omega arith }

below_end : (ratio : ℕ) → BetweenEnds ratio → ratio ≤ line_at last_hundredth
below_end ratio h = omega (arith, h.1, curve_above_line last_hundredth (omega arith))

-- the line's point is a temperature of the range
pub line_point_in_range : (ratio : ℕ) → BetweenEnds ratio → line_point ratio ≤ last_hundredth
unfolding line_point
line_point_in_range ratio h = omega (arith, below_end ratio h)

-- the amount by which the curve lies above the line at a t up to it can be taken off the ratio and leaves W(0) at least
pub fits : (ratio t : ℕ) → BetweenEnds ratio → t ≤ line_point ratio → W 0 + above_line t ≤ ratio
unfolding line_point
fits ratio t h l = omega (arith, below_line t (omega (arith, line_point_in_range ratio h)))

module _ (ratio : ℕ) (h : BetweenEnds ratio) where
  abbrev t : ℕ
  t = answer_of ratio

  by_line_lem : ByLine ratio t
  by_line_lem = record {
    in_range = answer_bounded ratio;
    to_end = below_end ratio h;
    from = omega (arith, answer_reached ratio h.0, curve_above_line t (answer_bounded ratio));
    to = grind (arith, below_end ratio h, answer_bounded ratio, answer_largest ratio (suc t), curve_above_line (suc t), differs_little (suc t) t 1);
  }

  abbrev l : ℕ
  l = line_point ratio

  line : Point ratio 0 l
  unfolding line_point
  line = record { from = omega (arith, h.0); to = omega (arith, h.0) }

  abbrev f : ℕ
  f = next_from ratio l

  nearer : Point ratio (above_line l) f
  unfolding next_from
  nearer = point ratio (above_line l) (fits ratio l h (le_refl _))

  f_below : f ≤ l
  f_below = nearer_below ratio t by_line_lem l line f nearer

  abbrev s : ℕ
  s = next_from ratio f

  nearest : Point ratio (above_line f) s
  unfolding next_from
  nearest = point ratio (above_line f) (fits ratio f h f_below)

  pub line_bounds : (l ≤ t + 124) × (t ≤ l) × (l ≤ last_hundredth)
  line_bounds = (line_to ratio t by_line_lem l line, line_from ratio t by_line_lem l line, line_end ratio t by_line_lem l line)

  pub nearer_bounds : (f ≤ t + 4) × (t ≤ f + 4) × (f ≤ l)
  nearer_bounds = (nearer_to ratio t by_line_lem l line f nearer, nearer_from ratio t by_line_lem l line f nearer, f_below)

  pub nearest_bounds : (s ≤ suc t) × (t ≤ s) × (s ≤ last_hundredth)
  nearest_bounds = (
    nearest_to ratio t by_line_lem l line f nearer _ nearest,
    nearest_from ratio t by_line_lem l line f nearer _ nearest,
    nearest_end ratio t by_line_lem l line f nearer _ nearest,
  )
