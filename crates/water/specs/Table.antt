-- The water tables, one for each pressure: for each whole degree Celsius from 0 to the table's last, the specific enthalpy and the specific volume of
-- water at its pressure, each worked out exactly by IAPWS-IF97 and then rounded once, to the nearest whole number, a half upwards. Pressure and last
-- degree are parameters of that rule. docs/FORMAT.md, "Water", and docs/OPERATIONS.md, "Water: tables, heat coefficient, heat of a volume".
use Rattle.std.specs.Prelude.{ℕ, ◌^◌, cond, leb, Option, Some, None, Result, Ok, Err}
use Rattle.std.specs.Result.{result_unwrap_or}
use Rattle.quantity.specs.declared.refusal.Refusal.{Refusal}
use Rattle.water.specs.Signed.{SignedFraction, decimal_number, ◌⊕◌, ◌⊗◌, nearest}
use Rattle.water.specs.If97.{enthalpy, volume}
use Rattle.water.specs.Pressure.{bar_of, last_of, pressure_of}
use Rattle.water.specs.declared.pressure.Pressure.{Pressure}
use Rattle.water.specs.declared.pressure.Pressure.TheVariants.{Bar16}
use Rattle.water.specs.declared.tables.Entry.{Entry}

-- A table: its last degree, and its two entries of each degree, in mJ/kg and in 10^-12 m³/kg.
pub record Table : Type 0 where
  pub last : ℕ
  pub specific_enthalpy : ℕ → ℕ
  pub specific_volume : ℕ → ℕ

-- A temperature in °C, in kelvins: 0 °C are 273.15 K.
abbrev pub kelvins : SignedFraction → SignedFraction
kelvins degrees = degrees ⊕ decimal_number 27315 2

-- The enthalpy h of a whole degree, in mJ/kg, at a pressure in bar (10 bar are 1 MPa): the exact one in J/kg times 1000, rounded to nearest.
unfoldable pub enthalpy_entry : ℕ → ℕ → ℕ
enthalpy_entry bar d = nearest (decimal_number 1000 0 ⊗ enthalpy (decimal_number bar 1) (kelvins (decimal_number d 0)))

-- The volume v likewise, in 10^-12 m³/kg.
unfoldable pub volume_entry : ℕ → ℕ → ℕ
volume_entry bar d = nearest (decimal_number (10 ^ 12) 0 ⊗ volume (decimal_number bar 1) (kelvins (decimal_number d 0)))

-- The table at a pressure in bar, from 0 °C to a last degree.
abbrev pub table_at : ℕ → ℕ → Table
table_at bar n = record { last = n; specific_enthalpy = enthalpy_entry bar; specific_volume = volume_entry bar }

-- The table of a pressure: at 6 bar to 150 °C, at 16 bar to 180 °C.
abbrev pub table_of : Pressure → Table
table_of p = table_at (bar_of p) (last_of p)

-- The pressure by which heat and coefficient are worked out, of a number as it stands on a card. One that names no pressure stands for 16 bar here; both
-- operations refuse it with 77.
abbrev pub asked_pressure : ℕ → Pressure
asked_pressure field = result_unwrap_or (pressure_of field) Bar16

-- The table of that pressure.
abbrev pub table_for : ℕ → Table
table_for field = table_of (asked_pressure field)

-- The entry of a whole degree in the table of a pressure that was named. Past the table's last degree there is none, and none where no pressure was.
abbrev pub entry_at : ℕ → Result Pressure Refusal → Option Entry
entry_at d (Ok p) = cond (leb d (last_of p)) (Some (record { enthalpy = (table_of p).specific_enthalpy d; volume = (table_of p).specific_volume d })) None
entry_at d (Err r) = None

-- The same of a number as it stands on a card.
unfoldable pub entry_of : ℕ → ℕ → Option Entry
entry_of d field = entry_at d (pressure_of field)
