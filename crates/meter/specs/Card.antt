-- The card: what is fixed about a heat meter, and which cards are allowed (docs/FORMAT.md, "Line C: the meter's card"). A row is a refusal with the
-- condition under which it is given (quantity's specs/Refusals.antt, which has the numbers). A row applies where its condition holds; the first row
-- that applies refuses the card, and a card that no row refuses is allowed.
use Rattle.std.specs.Prelude.{ℕ, ◌*◌, ◌^◌, List, [], ◌∷◌, not, ◌&&◌, ◌||◌, ltb, leb}
use Rattle.quantity.specs.Refusals.{row, outside}
use Rattle.quantity.specs.declared.refusal.Refusal.TheVariants as R
use Rattle.quantity.specs.declared.refusal.Row.{Row}
use Rattle.quantity.specs.Units.{last_degree, largest_kelvins}
use Rattle.platinum.specs.Sensor.{sensor_of, is_unknown}
use Rattle.water.specs.Pressure.{pressure_of, ends_below}
use Rattle.meter.specs.declared.card.Card.{Card}

-- The card's numbers in their order, which is that of line C: the serial number; the place where the volume is measured, 1 in the supply and 2 in the
-- return; the resistance of the platinum sensors at 0 °C, in ohm; the volume of a pulse, in mL; in whole °C the limits of the temperatures, Θmin and
-- Θmax; in whole K those of the temperature difference, Δmin and Δmax; the flow rates in mL/h, namely the lower limit qi, the permanent one qp and the
-- upper limit qs; the upper limit Ps of the thermal power, in W; and, on no line, the pressure of the water, in bar.
unfoldable pub fields_of : Card → List ℕ
fields_of c =
    c.serial
    ∷ c.place
    ∷ c.sensor
    ∷ c.ml_per_pulse
    ∷ c.theta_min
    ∷ c.theta_max
    ∷ c.delta_min
    ∷ c.delta_max
    ∷ c.qi
    ∷ c.qp
    ∷ c.qs
    ∷ c.ps
    ∷ c.pressure
    ∷ []

-- How many numbers these are.
abbrev pub card_fields : ℕ
card_fields = 13

-- A card is refused, in this order, with
-- 10 unless its serial number is from 1 to 99999999,
-- 11 unless the volume is measured in the supply or in the return,
-- 12 unless the sensors' resistance at 0 °C is 100, 500 or 1000 ohm,
-- 13 unless a pulse stands for 1 mL to 100 L,
-- 14 unless Θmin is below Θmax, and Θmax at most 180 °C,
-- 15 unless Δmin is 1, 2 or 3 K,
-- 16 unless Δmax is at least ten times Δmin (OIML R 75-1, 7.1) and at most 180 K,
-- 17 unless qi is at least 1 mL/h, qp not below qi, qs not below qp, and qs at most 1000 m³/h,
-- 18 unless Ps is from 1 W to 1 GW,
-- 77 unless the pressure is 6 or 16 bar, and its water table reaches Θmax: at 6 bar it ends at 150 °C, at 16 bar where 14 has asked already.
-- The fields that no formula uses, which are the serial number, qi and qp, are tested like the others.
unfoldable pub card_rows : Card → List Row
card_rows c =
    row R.Serial (outside c.serial 1 99999999)
    ∷ row R.Place (outside c.place 1 2)
    ∷ row R.SensorKind (is_unknown (sensor_of c.sensor))
    ∷ row R.PulseVolume (outside c.ml_per_pulse 1 100000)
    ∷ row R.ThetaRange (leb c.theta_max c.theta_min || ltb last_degree c.theta_max)
    ∷ row R.DeltaMin (outside c.delta_min 1 3)
    ∷ row R.DeltaMax (ltb c.delta_max (10 * c.delta_min) || ltb largest_kelvins c.delta_max)
    ∷ row R.FlowRates (not (leb 1 c.qi && leb c.qi c.qp && leb c.qp c.qs && leb c.qs (10 ^ 9)))
    ∷ row R.PowerLimit (outside c.ps 1 (10 ^ 9))
    ∷ row R.Pressure (ends_below (pressure_of c.pressure) c.theta_max)
    ∷ []
