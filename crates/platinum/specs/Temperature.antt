-- The temperature of a reading, by the curve of IEC 60751. The units: readings, called r, are resistances in 0.0001 ohm; n, what the sensor has at
-- 0 °C, is in ohm; temperatures, called t, are in hundredths of °C. docs/FORMAT.md, "A sample's volume and temperatures".
use Rattle.std.specs.Prelude.{ℕ, ◌+◌, ◌-◌, ◌*◌, ◌≤◌, cond, leb, ltb, Result, Ok, Err}
use Rattle.quantity.specs.Largest.{largest}
use Rattle.quantity.specs.Units.{last_hundredth}
use Rattle.quantity.specs.declared.units.Temperature.{Temperature}
use Rattle.quantity.specs.declared.range.End.TheVariants.{Low, High}
use Rattle.platinum.specs.Sensor.{resistance_of, sensor_of}
use Rattle.platinum.specs.declared.sensor.Sensor.{Sensor}
use Rattle.platinum.specs.declared.reading.Unmeasured.{Unmeasured}
use Rattle.platinum.specs.declared.reading.Unmeasured.TheVariants.{Outside}

-- The curve from 0 °C on: the resistance ratio, which is the resistance at t divided by that at 0 °C, in units of 10^-14. With Θ in °C, IEC 60751
-- has 1 + A×Θ + B×Θ×Θ for it, where A is 3.9083×10^-3 and B is −5.775×10^-7; in these units all its numbers are whole. The difference of whole
-- numbers, which stops at 0, never does on 0 to 18000 (`square` of proofs/Growth.antt).
unfoldable pub W : ℕ → ℕ
W t = 100000000000000 + 3908300000 * t - 5775 * t * t

-- A reading in the unit of n×W(t), which is 10^-14 ohm.
abbrev pub scaled : ℕ → ℕ
scaled r = r * 10000000000

-- The temperature of a reading of a sensor with n ohm: the largest one of the range at which the sensor's resistance is not above the reading. A
-- reading below the resistance at 0.00 °C, or above that at 180.00 °C, has none; the answer is then the end of the range that it misses.
unfoldable pub of_resistance : ℕ → ℕ → Result Temperature Unmeasured
of_resistance n r =
    cond (ltb (scaled r) (n * W 0)) (Err (Outside Low))
    (cond (ltb (n * W last_hundredth) (scaled r)) (Err (Outside High))
    (Ok (record { 0 = largest (λ t. leb (n * W t) (scaled r)) last_hundredth })))

-- The same of a sensor kind, if there is one; without a kind there is no temperature.
abbrev pub of_kind : Result Sensor Unmeasured → ℕ → Result Temperature Unmeasured
of_kind (Ok s) r = of_resistance (resistance_of s) r
of_kind (Err e) r = Err e

-- What the temperature operation answers, of a sensor as it stands on a card and a reading.
unfoldable pub temperature_of : ℕ → ℕ → Result Temperature Unmeasured
temperature_of field r = of_kind (sensor_of field) r

-- The rule once more, as statements in which nothing is searched for. A reading has a temperature if it lies between the resistances at both ends
-- of the range, or at one of them ..
pub record HasTemperature (n r : ℕ) : Type 0 where
  pub from : n * W 0 ≤ scaled r
  pub to : scaled r ≤ n * W last_hundredth

-- .. and its temperature is t if t is in the range, the resistance at t is not above the reading, and no larger temperature of the range has this.
-- `MeasuredExactly` of specs/Theorems.antt says that the operation answers by these.
pub record IsTemperature (n r t : ℕ) : Type 0 where
  pub in_range : t ≤ last_hundredth
  pub reached : n * W t ≤ scaled r
  pub largest_one : (s : ℕ) → s ≤ last_hundredth → n * W s ≤ scaled r → s ≤ t
