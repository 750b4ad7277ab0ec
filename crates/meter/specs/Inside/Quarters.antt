-- What is known of cells and an index once row 73 has not applied: the type that holds them in the code carries it. No public operation means it:
-- what a call with an index answers is `in_quarter_of` of specs/Profile.antt, for all inputs.
use Rattle.std.specs.Prelude.{ℕ, ◌≤◌, ◌<◌, List, length}
use Rattle.meter.specs.Profile.{quarters, cell_at}
use Rattle.meter.specs.State.{largest_register}

-- The index is that of a cell, and no cell is above the limit of a register.
pub record Admitted (cells : List ℕ) (index : ℕ) : Type 0 where
  pub within : index < quarters
  pub small : (k : ℕ) → k < length cells → cell_at cells k ≤ largest_register
