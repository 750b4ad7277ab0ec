-- The arrays in which the code keeps the tables. No public operation means them: what it answers is told by the tables themselves.
use Rattle.std.specs.Prelude.{◌≡◌, ℕ, suc, ◌≤◌, List, length, get_or}

-- An array holds one column of a table, the enthalpies or the volumes: one number for each degree from 0 to the last, each the table's own.
pub record Holds (entry : ℕ → ℕ) (last : ℕ) (numbers : List ℕ) : Type 0 where
  pub long : length numbers ≡ suc last
  pub right : (d : ℕ) → d ≤ last → get_or numbers d 0 ≡ entry d
