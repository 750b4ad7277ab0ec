-- The heat coefficient k of OIML R 75-1, (A.1): the heat that a cubic metre of water gives off for each kelvin between supply and return, in
-- J/(m³ K). The cubic metre is measured at the place of the flow sensor. docs/OPERATIONS.md, "Water: tables, heat coefficient, heat of a volume".
use Rattle.std.specs.Prelude.{ℕ, ◌-◌, ◌*◌, ◌^◌, List, [], ◌∷◌, ◌++◌, Result, Ok}
use Rattle.std.specs.Result.{result_and}
use Rattle.quantity.specs.declared.units.Temperature.{Temperature}
use Rattle.quantity.specs.declared.refusal.Refusal.{Refusal}
use Rattle.quantity.specs.declared.refusal.Refusal.TheVariants.{SupplyBelowReturn, DifferenceTooSmall}
use Rattle.quantity.specs.declared.refusal.Row.{Row}
use Rattle.quantity.specs.declared.fraction.Fraction.{Fraction}
use Rattle.quantity.specs.Fractions.{◌over◌, floored}
use Rattle.quantity.specs.Units.{is_colder, distance_of}
use Rattle.quantity.specs.Refusals.{row, first_of}
use Rattle.water.specs.Table.{Table, table_for}
use Rattle.water.specs.Interpolation.{enthalpy_at, volume_at}
use Rattle.water.specs.Pair.{at_place, are_equal, pair_rows}

-- The exact coefficient, with V at the temperature of the measured water. The factor 10^11 leads from mJ, 10^-12 m³ and hundredths of a kelvin to
-- J, m³ and K. With ts below tr the difference of the enthalpies stops at 0; that case is refused.
unfoldable pub exact_coefficient : Table → Temperature → Temperature → Temperature → Fraction
exact_coefficient w ts tr measured = 10 ^ 11 * (enthalpy_at w ts - enthalpy_at w tr) over (volume_at w measured * (distance_of ts tr).0)

-- The rows of the order: a supply colder than the return (36), and equally warm ones (37), which leave no kelvin to divide by.
abbrev pub order_rows : Temperature → Temperature → List Row
order_rows ts tr = row SupplyBelowReturn (is_colder ts tr) ∷ row DifferenceTooSmall (are_equal ts tr) ∷ []

-- All rows of the operation: 11, 77, 70, 71, 36, 37.
abbrev pub coefficient_rows : Temperature → Temperature → ℕ → ℕ → List Row
coefficient_rows ts tr place pressure = pair_rows ts tr place pressure ++ order_rows ts tr

-- What the operation answers: the refusal of the first row that applies, or else the exact coefficient by the pressure's table, rounded down.
unfoldable pub coefficient_of : Temperature → Temperature → ℕ → ℕ → Result ℕ Refusal
coefficient_of ts tr place pressure =
    result_and (first_of (coefficient_rows ts tr place pressure))
    (Ok (floored (exact_coefficient (table_for pressure) ts tr (at_place place ts tr))))
