-- The sensor kinds: Pt 100, Pt 500 and Pt 1000. The number in a platinum sensor's name tells the ohms that it has at 0 °C, which are called n here.
-- Both sensors of the temperature sensor pair are of the kind that the card names. docs/FORMAT.md, "Line C: the meter's card".
use Rattle.std.specs.Prelude.{◌≡◌, ◌⊎◌, ℕ, Bool, true, false, cond, eqb, Result, Ok, Err}
use Rattle.platinum.specs.declared.sensor.Sensor.{Sensor}
use Rattle.platinum.specs.declared.sensor.Sensor.TheVariants.{Pt100, Pt500, Pt1000}
use Rattle.platinum.specs.declared.reading.Unmeasured.{Unmeasured}
use Rattle.platinum.specs.declared.reading.Unmeasured.TheVariants.{NoSensor}

-- The resistance n of each kind at 0 °C, in ohm.
unfoldable pub resistance_of : Sensor → ℕ
resistance_of Pt100 = 100
resistance_of Pt500 = 500
resistance_of Pt1000 = 1000

-- n is the resistance of some sensor kind.
abbrev pub IsResistance : ℕ → Type 0
IsResistance n = (n ≡ 100) ⊎ (n ≡ 500) ⊎ (n ≡ 1000)

-- The kind that a number names, as it stands on a card. Another number names none, and then there is no sensor to read by.
unfoldable pub sensor_of : ℕ → Result Sensor Unmeasured
sensor_of field =
    cond (eqb field 100) (Ok Pt100)
    (cond (eqb field 500) (Ok Pt500)
    (cond (eqb field 1000) (Ok Pt1000)
    (Err NoSensor)))

-- The number names no kind.
abbrev pub is_unknown : Result Sensor Unmeasured → Bool
is_unknown (Ok s) = false
is_unknown (Err e) = true
