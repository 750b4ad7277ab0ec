-- The refusals of a reading. Without a sensor kind it is 12. A reading that is too low for a temperature is refused with 32, or with 33 if it is
-- that of the return; one that is too high with 70, or with 71. A reading by itself has the numbers of the supply. docs/OPERATIONS.md, "The
-- temperature of one reading".
use Rattle.std.specs.Prelude.{ℕ, List, [], ◌∷◌, Bool, true, false, Result, Ok, Err}
use Rattle.quantity.specs.Refusals.{row}
use Rattle.quantity.specs.Range.{refusal_at_end}
use Rattle.quantity.specs.declared.units.Temperature.{Temperature}
use Rattle.quantity.specs.declared.refusal.Refusal.{Refusal}
use Rattle.quantity.specs.declared.refusal.Refusal.TheVariants.{SensorKind}
use Rattle.quantity.specs.declared.refusal.Row.{Row}
use Rattle.quantity.specs.declared.range.Role.{Role}
use Rattle.quantity.specs.declared.range.Role.TheVariants.{Alone}
use Rattle.quantity.specs.declared.range.End.{End}
use Rattle.quantity.specs.declared.range.End.TheVariants.{Low, High}
use Rattle.platinum.specs.Sensor.{sensor_of, is_unknown}
use Rattle.platinum.specs.Temperature.{temperature_of}
use Rattle.platinum.specs.declared.reading.Unmeasured.{Unmeasured}
use Rattle.platinum.specs.declared.reading.Unmeasured.TheVariants.{NoSensor, Outside}

-- The refusal, by whose reading it is and by why it has no temperature.
unfoldable pub unmeasured_refusal : Role → Unmeasured → Refusal
unmeasured_refusal role NoSensor = SensorKind
unmeasured_refusal role (Outside e) = refusal_at_end role e

-- What an answer refuses, by whose reading it is: nothing if it is a temperature.
unfoldable pub refusal_of : Role → Result Temperature Unmeasured → Result Unit Refusal
refusal_of role (Ok t) = Ok tt
refusal_of role (Err u) = Err (unmeasured_refusal role u)

-- An answer without a temperature, that is counted with this end of the range: the one that was missed. Without a sensor no end was missed, and it
-- is counted with the low one; wherever the sensor is looked at, 12 has come before.
abbrev pub has_none : End → Result Temperature Unmeasured → Bool
has_none e (Ok t) = false
has_none Low (Err (Outside Low)) = true
has_none Low (Err (Outside High)) = false
has_none High (Err (Outside Low)) = false
has_none High (Err (Outside High)) = true
has_none Low (Err NoSensor) = true
has_none High (Err NoSensor) = false

-- The rows of one reading, by whose it is: too low, then too high.
abbrev pub end_rows : Role → Result Temperature Unmeasured → List Row
end_rows role m =
    row (refusal_at_end role Low) (has_none Low m)
    ∷ row (refusal_at_end role High) (has_none High m)
    ∷ []

-- The rows of the temperature operation, whose reading stands by itself: 12, 32, 70. What its answer refuses, by `refusal_of Alone`, is the first
-- of these that applies.
abbrev pub alone_rows : ℕ → ℕ → List Row
alone_rows field r = row SensorKind (is_unknown (sensor_of field)) ∷ end_rows Alone (temperature_of field r)
