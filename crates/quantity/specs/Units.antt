-- The two units of temperature, and their range. A temperature is a whole number of hundredths of °C; a temperature difference ΔΘ is a whole number
-- of hundredths of a kelvin. Each is a type of its own, so that neither can be taken for the other, nor the two be added or compared.
-- docs/OPERATIONS.md, "What every operation promises", has the units; docs/FORMAT.md, "A sample's volume and temperatures", the range.
use Rattle.std.specs.Prelude.{ℕ, ◌-◌, ◌*◌, min, max, Bool, ltb}
use Rattle.quantity.specs.declared.units.Temperature.{Temperature}
use Rattle.quantity.specs.declared.units.Difference.{Difference}

-- The range of temperatures goes from 0.00 to 180.00 °C. Its last hundredth of a degree ..
abbrev pub last_hundredth : ℕ
last_hundredth = 18000

-- .. its last whole degree, which is the last of the water table at 16 bar too ..
abbrev pub last_degree : ℕ
last_degree = 180

-- .. and the largest difference that two of its temperatures can have, in whole kelvins.
abbrev pub largest_kelvins : ℕ
largest_kelvins = 180

-- So many whole degrees Celsius, as a temperature.
abbrev pub whole_degrees : ℕ → Temperature
whole_degrees d = record { 0 = d * 100 }

-- So many whole kelvins, as a difference.
abbrev pub whole_kelvins : ℕ → Difference
whole_kelvins k = record { 0 = k * 100 }

-- The first temperature is below the second.
abbrev pub is_colder : Temperature → Temperature → Bool
is_colder a b = ltb a.0 b.0

-- The first difference is below the second.
abbrev pub is_smaller : Difference → Difference → Bool
is_smaller a b = ltb a.0 b.0

-- How far two temperatures lie apart: the larger less the smaller, whichever of the two that is.
unfoldable pub distance_of : Temperature → Temperature → Difference
distance_of a b = record { 0 = max a.0 b.0 - min a.0 b.0 }
