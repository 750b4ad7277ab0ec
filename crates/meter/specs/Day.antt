-- The calls of a day: samples with their quarter's index, where each call is given the meter and also the cells that the call before it left
-- (docs/OPERATIONS.md, "The day profile"). So nothing else has written into the cells, whereas in specs/Calls.antt the cells of each call are any.
use Rattle.std.specs.Prelude.{ℕ, ◌≡◌, List, [], ◌∷◌}
use Rattle.meter.specs.Profile.{in_quarter_of}
use Rattle.meter.specs.Run.{Asking, asks_in_quarter}
use Rattle.meter.specs.declared.profile.Profiled.{Profiled}
use Rattle.meter.specs.declared.sample.Sample.{Sample}
use Rattle.meter.specs.declared.state.Meter.{Meter}

-- A sample with the index of its quarter.
pub record InQuarter : Type 0 where
  pub sample : Sample
  pub index : ℕ

-- `DayCalls m cells day z last`: calls with a day's samples, each with its index, that lead from the meter m and these cells to the meter z and the
-- cells `last`. Each answers what its contract says.
pub data DayCalls : Meter → List ℕ → List InQuarter → Meter → List ℕ → Type 0 where
  no_call : {m : Meter} {cells : List ℕ} → DayCalls m cells [] m cells
  call : {m z : Meter} {cells last : List ℕ} {day : List InQuarter} (taken : InQuarter) (a : Profiled) →
      a ≡ in_quarter_of m cells taken.sample taken.index → DayCalls a.stepped.meter a.cells day z last → DayCalls m cells (taken ∷ day) z last

-- The meter and the cells that samples with their index lead to, each taken by its call after the one before it.
abbrev pub day_of : Meter → List ℕ → List InQuarter → Meter × List ℕ
day_of m cells [] = (m, cells)
day_of m cells (taken ∷ day) = let a = in_quarter_of m cells taken.sample taken.index in day_of a.stepped.meter a.cells day

-- What is asked in such calls: each asking has the cells that the call before it left.
abbrev pub day_asked : Meter → List ℕ → List InQuarter → List Asking
day_asked m cells [] = []
day_asked m cells (taken ∷ day) =
    let a = in_quarter_of m cells taken.sample taken.index in
    asks_in_quarter cells taken.sample taken.index ∷ day_asked a.stepped.meter a.cells day
