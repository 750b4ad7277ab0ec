-- What is proved of temperatures. Each statement has the name of the clause or of the law that promises it. A sensor is given by n, the ohms that it
-- has at 0 °C; r stands for one of its readings, which count 0.0001 ohm.
use Rattle.std.specs.Prelude.{◌≡◌, ◌↔◌, ℕ, ◌*◌, ◌≤◌, ◌<◌, Result, Ok, Err}
use Rattle.quantity.specs.Units.{last_hundredth}
use Rattle.quantity.specs.declared.units.Temperature.{Temperature}
use Rattle.quantity.specs.declared.range.End.TheVariants.{Low, High}
use Rattle.platinum.specs.Sensor.{IsResistance}
use Rattle.platinum.specs.Temperature.{W, scaled, temperature_of, HasTemperature, IsTemperature}
use Rattle.platinum.specs.declared.reading.Unmeasured.{Unmeasured}
use Rattle.platinum.specs.declared.reading.Unmeasured.TheVariants.{NoSensor, Outside}

-- A temperature is answered exactly where there is one, and it is that one: n is the resistance of a sensor kind, the reading lies between the
-- resistances at both ends of the range, and no larger temperature of the range has a resistance that is not above the reading.
abbrev pub MeasuredExactly : ℕ → ℕ → Result Temperature Unmeasured → Type 0
MeasuredExactly n r answer = (t : Temperature) → (answer ≡ Ok t) ↔ (IsResistance n × HasTemperature n r × IsTemperature n r t.0)

-- What is answered otherwise says exactly why: no sensor kind has the resistance n, or the reading is below that of 0.00 °C, or above that of
-- 180.00 °C.
pub record UnmeasuredExactly (n r : ℕ) (answer : Result Temperature Unmeasured) : Type 0 where
  pub no_sensor : (answer ≡ Err NoSensor) ↔ (¬ IsResistance n)
  pub low : (answer ≡ Err (Outside Low)) ↔ (IsResistance n × (scaled r < n * W 0))
  pub high : (answer ≡ Err (Outside High)) ↔ (IsResistance n × (n * W last_hundredth < scaled r))

-- Of two readings of one sensor, the larger never has the lower temperature.
abbrev pub LargerReading : Type 0
LargerReading =
    (field r r' : ℕ) (s t : Temperature) → r ≤ r' → temperature_of field r ≡ Ok s → temperature_of field r' ≡ Ok t → s.0 ≤ t.0
