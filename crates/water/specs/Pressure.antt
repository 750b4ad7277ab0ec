-- The pressures at which a heat meter works. Each has a water table of its own, which ends where the water is still liquid at that pressure: at 6 bar
-- it boils at about 159 °C, at 16 bar at about 201 °C. docs/OPERATIONS.md, "Water: tables, heat coefficient, heat of a volume".
use Rattle.std.specs.Prelude.{ℕ, cond, Bool, true, eqb, ltb, Result, Ok, Err}
use Rattle.quantity.specs.Units.{last_degree}
use Rattle.quantity.specs.declared.refusal.Refusal.{Refusal}
use Rattle.quantity.specs.declared.refusal.Refusal.TheVariants as R
use Rattle.water.specs.declared.pressure.Pressure.{Pressure}
use Rattle.water.specs.declared.pressure.Pressure.TheVariants.{Bar6, Bar16}

-- A pressure in bar; 10 bar are 1 MPa.
unfoldable pub bar_of : Pressure → ℕ
bar_of Bar6 = 6
bar_of Bar16 = 16

-- The last whole degree of its table: at 16 bar it is the last one of a reading's range.
unfoldable pub last_of : Pressure → ℕ
last_of Bar6 = 150
last_of Bar16 = last_degree

-- The pressure that a number names, as it stands on a card, in bar. Another number names none.
unfoldable pub pressure_of : ℕ → Result Pressure Refusal
pressure_of field = cond (eqb field 6) (Ok Bar6) (cond (eqb field 16) (Ok Bar16) (Err R.Pressure))

-- There is no pressure, or its table ends below the degree d.
abbrev pub ends_below : Result Pressure Refusal → ℕ → Bool
ends_below (Ok p) d = ltb (last_of p) d
ends_below (Err r) d = true
