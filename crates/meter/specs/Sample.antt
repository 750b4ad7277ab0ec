-- A sample: what the flow sensor and the temperature sensor pair gave in a time of some seconds. With the meter's card it has a volume, two temperatures, and
-- an exact heat or cold (docs/FORMAT.md, "A sample's volume and temperatures" and "Heat and cold").
use Rattle.std.specs.Prelude.{ℕ, ◌*◌, List, [], ◌∷◌, Bool, ltb, Result, Ok, Err}
use Rattle.quantity.specs.declared.units.Temperature.{Temperature}
use Rattle.platinum.specs.Temperature.{temperature_of}
use Rattle.platinum.specs.declared.reading.Unmeasured.{Unmeasured}
use Rattle.water.specs.Table.{table_for}
use Rattle.quantity.specs.declared.fraction.Fraction.{Fraction}
use Rattle.water.specs.Heat.{pair_heat}
use Rattle.meter.specs.declared.card.Card.{Card}
use Rattle.meter.specs.declared.sample.Sample.{Sample}

-- The sample's numbers in the order of line S: how many pulses came, how many seconds it took, and the two sensors' resistances in 0.0001 ohm, that
-- of the supply first.
unfoldable pub sample_numbers : Sample → List ℕ
sample_numbers s = s.pulses ∷ s.seconds ∷ s.supply_reading ∷ s.return_reading ∷ []

-- How many numbers these are.
abbrev pub sample_fields : ℕ
sample_fields = 4

-- The volume u in mL: each pulse stands for the volume that the card gives it.
unfoldable pub volume_of : Card → Sample → ℕ
volume_of c s = s.pulses * c.ml_per_pulse

-- Whether any water flowed, so that the sample has heat or cold to count.
abbrev pub has_volume : Card → Sample → Bool
has_volume c s = ltb 0 (volume_of c s)

-- The temperature that the supply reading has, or the reason why it has none;
abbrev pub supply_of : Card → Sample → Result Temperature Unmeasured
supply_of c s = temperature_of c.sensor s.supply_reading

-- and that of the return reading.
abbrev pub return_of : Card → Sample → Result Temperature Unmeasured
return_of c s = temperature_of c.sensor s.return_reading

-- What stands in for the temperature of a reading that has none, so that the definitions below speak of any sample: 0 °C. No accepted sample needs
-- it: `reading_rows` of specs/Step.antt refuse such a reading, and the step promises that both readings of an accepted sample have a temperature
-- (`AcceptedHasTemperatures` of specs/Theorems.antt).
abbrev pub missing_temperature : Temperature
missing_temperature = record { 0 = 0 }

-- The temperature that an answer has, or this one where it has none.
abbrev pub temperature_or_missing : Result Temperature Unmeasured → Temperature
temperature_or_missing (Ok t) = t
temperature_or_missing (Err u) = missing_temperature

-- The temperature of the supply, called ts,
abbrev pub ts : Card → Sample → Temperature
ts c s = temperature_or_missing (supply_of c s)

-- and that of the return, called tr.
abbrev pub tr : Card → Sample → Temperature
tr c s = temperature_or_missing (return_of c s)

-- The exact heat in mJ that the volume u gives off between ts and tr, as a fraction; or the exact cold, where ts is below tr. The water's specific
-- volume is taken at the temperature of the pipe in which the volume is measured (`pair_heat` of water's specs/Heat.antt). A register grows by this
-- fraction rounded down; the exact sum (specs/Sum.antt) takes the fraction itself.
unfoldable pub sample_heat : Card → Sample → Fraction
sample_heat c s = pair_heat (table_for c.pressure) (volume_of c s) (ts c s) (tr c s) c.place
