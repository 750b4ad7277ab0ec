-- What the heat coefficient and the heat of a volume have in common: the supply temperature ts, the return temperature tr, the place of the flow
-- sensor, and the pressure. A place is 1 for the supply and 2 for the return, and a pressure 6 or 16 bar, as on a card. docs/OPERATIONS.md, "Water:
-- tables, heat coefficient, heat of a volume".
use Rattle.std.specs.Prelude.{ℕ, List, [], ◌∷◌, Bool, cond, not, ◌&&◌, eqb}
use Rattle.std.specs.Result.{is_err}
use Rattle.quantity.specs.declared.units.Temperature.{Temperature}
use Rattle.quantity.specs.declared.range.Role.TheVariants.{Supply, Return}
use Rattle.quantity.specs.declared.range.End.TheVariants.{High}
use Rattle.quantity.specs.Units.{is_colder, whole_degrees}
use Rattle.quantity.specs.Range.{refusal_at_end}
use Rattle.quantity.specs.Refusals.{row, outside}
use Rattle.quantity.specs.declared.refusal.Refusal.TheVariants as R
use Rattle.quantity.specs.declared.refusal.Row.{Row}
use Rattle.water.specs.Pressure.{pressure_of}
use Rattle.water.specs.Table.{Table, table_for}

-- The temperature at the place, which is that of the water whose volume was measured. A place that is neither stands for the supply here; it is
-- refused with 11.
unfoldable pub at_place : ℕ → Temperature → Temperature → Temperature
at_place place ts tr = cond (eqb place 2) tr ts

-- Two temperatures are equally warm: neither is below the other.
abbrev pub are_equal : Temperature → Temperature → Bool
are_equal a b = not (is_colder a b) && not (is_colder b a)

-- A temperature is above the last degree of a table.
abbrev pub is_above : Table → Temperature → Bool
is_above w t = is_colder (whole_degrees w.last) t

-- The first rows of both operations: another place than 1 and 2 (11), another pressure than 6 and 16 bar (77), ts above the last degree of the
-- pressure's table, 150.00 °C at 6 bar and 180.00 °C at 16 bar (70), tr above it (71). A temperature that is given is never below 0.00 °C, so that 32
-- and 33 do not come here.
abbrev pub pair_rows : Temperature → Temperature → ℕ → ℕ → List Row
pair_rows ts tr place pressure =
    row R.Place (outside place 1 2)
    ∷ row R.Pressure (is_err (pressure_of pressure))
    ∷ row (refusal_at_end Supply High) (is_above (table_for pressure) ts)
    ∷ row (refusal_at_end Return High) (is_above (table_for pressure) tr)
    ∷ []
