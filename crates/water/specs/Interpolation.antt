-- Enthalpy and volume between two whole degrees: on the straight line from one entry of the table to the next. H(t) and V(t) are 100 times the
-- water's own values, so that they are whole numbers and nothing is rounded; where H is divided by V, for heat, cold and heat coefficient, the two
-- factors cancel. docs/FORMAT.md, "Water".
use Rattle.std.specs.Prelude.{ℕ, ◌+◌, ◌-◌, ◌*◌, ◌/◌, ◌%◌, cond, ltb}
use Rattle.quantity.specs.declared.units.Temperature.{Temperature}
use Rattle.water.specs.Table.{Table}

-- f hundredths of the way from the entry of degree d to the next one. f is below 100, so that the difference does not stop at 0.
abbrev pub between : (ℕ → ℕ) → ℕ → ℕ → ℕ
between entry d f = (100 - f) * entry d + f * entry (d + 1)

-- At t hundredths of °C, of a table's entries and its last degree. From the last degree on it is 100 times the last entry, so that no entry behind
-- it is asked for.
unfoldable pub interpolated : (ℕ → ℕ) → ℕ → ℕ → ℕ
interpolated entry last t = cond (ltb t (100 * last)) (between entry (t / 100) (t % 100)) (100 * entry last)

-- H(t), in 10^-2 mJ/kg ..
abbrev pub enthalpy_at : Table → Temperature → ℕ
enthalpy_at w t = interpolated w.specific_enthalpy w.last t.0

-- .. and V(t), in 10^-14 m³/kg.
abbrev pub volume_at : Table → Temperature → ℕ
volume_at w t = interpolated w.specific_volume w.last t.0
