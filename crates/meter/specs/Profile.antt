-- The day profile (docs/OPERATIONS.md, "The day profile"): how the heat of a day is spread over it. A day has 96 quarters of an hour, and a cell of
-- mJ for each; a sample comes with the index of the quarter that it belongs to.
use Rattle.std.specs.Prelude.{ℕ, ◌+◌, List, [], ◌∷◌, cond, ◌||◌, ltb, leb, get_or, set, replicate, Result, Ok, Err}
use Rattle.std.specs.List.{list_any}
use Rattle.quantity.specs.Fractions.{floored}
use Rattle.quantity.specs.Refusals.{row, first_of}
use Rattle.quantity.specs.declared.refusal.Refusal.{Refusal}
use Rattle.quantity.specs.declared.refusal.Refusal.TheVariants as R
use Rattle.quantity.specs.declared.refusal.Row.{Row}
use Rattle.meter.specs.Register.{own_register, is_same}
use Rattle.meter.specs.Sample.{sample_heat}
use Rattle.meter.specs.State.{largest_register}
use Rattle.meter.specs.Step.{step_of}
use Rattle.meter.specs.declared.card.Card.{Card}
use Rattle.meter.specs.declared.profile.Profiled.{Profiled}
use Rattle.meter.specs.declared.register.Register.TheVariants.{Heat}
use Rattle.meter.specs.declared.sample.Sample.{Sample}
use Rattle.meter.specs.declared.state.Meter.{Meter}

-- How many quarters of an hour a day has, and how many cells a profile.
abbrev pub quarters : ℕ
quarters = 96

-- The cells before a day's first sample.
abbrev pub zero_cells : List ℕ
zero_cells = replicate quarters 0

-- A call is refused with 73 if no quarter has its index, the first one having 0 and the last one 95, or if one of the cells that it is given is above
-- the limit of a register.
unfoldable pub profile_rows : List ℕ → ℕ → List Row
profile_rows cells index = row R.Profile (leb quarters index || list_any (λ cell. ltb largest_register cell) cells) ∷ []

-- What stands in the cell of an index, and 0 where there is no such cell.
abbrev pub cell_at : List ℕ → ℕ → ℕ
cell_at cells index = get_or cells index 0

-- The cells with so many mJ more in the cell of an index. All other cells stay.
abbrev pub raised_at : List ℕ → ℕ → ℕ → List ℕ
raised_at cells index heat = set cells index (cell_at cells index + heat)

-- The cells after a sample, by the step's outcome: a sample that is accepted and the heat register's own raises the cell of its quarter by its
-- heat, rounded down. Cold and refused samples leave all cells as they are.
abbrev pub cells_after : Card → List ℕ → Sample → ℕ → Result Unit Refusal → List ℕ
cells_after c cells s index (Ok u) = cond (is_same Heat (own_register c s)) (raised_at cells index (floored (sample_heat c s))) cells
cells_after c cells s index (Err r) = cells

-- The answer by what row 73 gives: where it applies, the meter and the cells are unchanged; where not, the step answers about the sample.
abbrev pub by_profile : Meter → List ℕ → Sample → ℕ → Result Unit Refusal → Profiled
by_profile m cells s index (Ok u) = record { stepped = step_of m s; cells = cells_after m.card cells s index (step_of m s).outcome }
by_profile m cells s index (Err r) = record { stepped = record { meter = m; outcome = Err r }; cells = cells }

-- What the step with an index answers, `step_in_quarter` in the code, for any meter, cells, sample and index: the step's answer, or 73, and the cells
-- afterwards. Row 73 is tried before all rows of the step.
unfoldable pub in_quarter_of : Meter → List ℕ → Sample → ℕ → Profiled
in_quarter_of m cells s index = by_profile m cells s index (first_of (profile_rows cells index))
