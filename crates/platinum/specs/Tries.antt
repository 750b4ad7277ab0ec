-- How far from the line a search looks. Each temperature at which it works out the curve is a try. The search keeps notes of its tries, the struct
-- `Tries` of the code: how many there were, which came first, and how far from that the farthest lay.
use Rattle.std.specs.Prelude.{◌≡◌, ℕ, ◌+◌, ◌≤◌, ◌<◌, max}
use Rattle.std.specs.Int.{abs_diff}
use Rattle.platinum.specs.Line.{line_point}
use Rattle.platinum.specs.declared.curve.Tries.{Tries}

-- The notes before the first try.
abbrev pub untried : Tries
untried = record { count = 0; first = 0; farthest = 0 }

-- The notes after one try more, at t.
pub record IsNoted (old : Tries) (t : ℕ) (new : Tries) : Type 0 where
  pub counted : new.count ≡ old.count + 1
  pub first : old.count ≡ 0 → new.first ≡ t
  pub later : 0 < old.count → new.first ≡ old.first
  pub farthest : new.farthest ≡ max old.farthest (abs_diff t new.first)

-- What a search for the temperature t of a ratio keeps to: its first try is the line's point, which lies at most 1.25 °C from t; its farthest try
-- lies at most 2.56 °C from the first; and it has four tries at most.
pub record FromLine (ratio t : ℕ) (tries : Tries) : Type 0 where
  pub on_line : tries.first ≡ line_point ratio
  pub near_answer : abs_diff tries.first t ≤ 125
  pub near_start : tries.farthest ≤ 256
  pub few : tries.count ≤ 4
