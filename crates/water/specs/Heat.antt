-- The heat of a volume of water, by OIML R 75-1: its mass times the difference of its specific enthalpies, in mJ. Its mass is its volume over the
-- specific volume where the flow sensor measured it. Where the supply is colder than the return the water has taken up heat, which counts as cold:
-- then the two enthalpies are exchanged, and the place of the flow sensor stays. The exact fraction is what a register's exact sum adds up; rounded
-- down, it is what the register itself gains. docs/FORMAT.md, "Heat and cold", and docs/OPERATIONS.md, "Water: tables, heat coefficient, heat of
-- a volume".
use Rattle.std.specs.Prelude.{ℕ, ◌-◌, ◌*◌, cond, List, [], ◌∷◌, ◌++◌, ltb, Result, Ok}
use Rattle.std.specs.Result.{result_and}
use Rattle.quantity.specs.declared.units.Temperature.{Temperature}
use Rattle.quantity.specs.Units.{is_colder}
use Rattle.quantity.specs.declared.refusal.Refusal.{Refusal}
use Rattle.quantity.specs.declared.refusal.Refusal.TheVariants.{Volume}
use Rattle.quantity.specs.declared.refusal.Row.{Row}
use Rattle.quantity.specs.declared.fraction.Fraction.{Fraction}
use Rattle.quantity.specs.Fractions.{◌over◌, floored}
use Rattle.quantity.specs.Refusals.{row, first_of}
use Rattle.water.specs.Table.{Table, table_for}
use Rattle.water.specs.Interpolation.{enthalpy_at, volume_at}
use Rattle.water.specs.Pair.{at_place, pair_rows}

-- The exact heat in mJ that u mL of water give off between a warm and a cold temperature, with V at the temperature of the measured water. The
-- factor 1000000 leads from mL to the 10^-12 m³ of the table. The warm temperature has to be the warmer one, as `pair_heat` gives them: otherwise
-- the difference stops at 0.
unfoldable pub exact_heat : Table → ℕ → Temperature → Temperature → Temperature → Fraction
exact_heat w u warm cold measured = 1000000 * u * (enthalpy_at w warm - enthalpy_at w cold) over volume_at w measured

-- The exact heat of u mL between supply and return, or the exact cold where the supply is the colder. V is at the temperature of the place either
-- way.
unfoldable pub pair_heat : Table → ℕ → Temperature → Temperature → ℕ → Fraction
pair_heat w u ts tr place =
    let measured = at_place place ts tr in
    cond (is_colder ts tr) (exact_heat w u tr ts measured) (exact_heat w u ts tr measured)

-- The largest volume whose heat is given, in mL: a cubic metre. A sample with more is refused.
abbrev pub most_millilitres : ℕ
most_millilitres = 1000000

-- All rows of the operation: those of the pair (11, 77, 70, 71), then a volume above the largest (31). Both orders of supply and return are
-- answered, and equally warm ones have 0 mJ: so neither 36 nor 37 is given.
abbrev pub heat_rows : ℕ → Temperature → Temperature → ℕ → ℕ → List Row
heat_rows u ts tr place pressure = pair_rows ts tr place pressure ++ (row Volume (ltb most_millilitres u) ∷ [])

-- What the operation answers: the refusal of the first row that applies, or else the exact heat or cold by the pressure's table, rounded down.
unfoldable pub heat_of : ℕ → Temperature → Temperature → ℕ → ℕ → Result ℕ Refusal
heat_of u ts tr place pressure =
    result_and (first_of (heat_rows u ts tr place pressure)) (Ok (floored (pair_heat (table_for pressure) u ts tr place)))
