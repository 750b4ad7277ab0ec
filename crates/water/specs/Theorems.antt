-- What is proved of the tables, and of heat and heat coefficient. Each statement has the name of the clause or of the law that promises it.
-- (`Verified` stands in specs/Verification.antt. That the arrays of the code are the tables is the contract of `table_entry`.)
use Rattle.std.specs.Prelude.{◌≡◌, ◌↔◌, ℕ, ◌+◌, ◌*◌, ◌≤◌, ◌<◌, Result, Ok}
use Rattle.quantity.specs.Refusals.{NoneApplies}
use Rattle.quantity.specs.declared.fraction.Fraction.{Fraction}
use Rattle.quantity.specs.declared.refusal.Refusal.{Refusal}
use Rattle.quantity.specs.declared.units.Temperature.{Temperature}
use Rattle.water.specs.declared.pressure.Pressure.{Pressure}
use Rattle.water.specs.Table.{Table, table_of, table_for}
use Rattle.water.specs.Pair.{at_place}
use Rattle.water.specs.Coefficient.{exact_coefficient, coefficient_rows}
use Rattle.water.specs.Heat.{pair_heat, heat_rows}

-- Bounds of a table, from which those of the registers follow. The enthalpy grows from each degree to the next, by 4,100,000 mJ/kg at least, and is
-- at most 800,000,000 mJ/kg; the volume lies from 900,000,000 to 1,130,000,000 × 10^-12 m³/kg.
pub record TableBounds (w : Table) : Type 0 where
  pub grows : (d : ℕ) → d < w.last → w.specific_enthalpy d + 4100000 ≤ w.specific_enthalpy (d + 1)
  pub most_enthalpy : (d : ℕ) → d ≤ w.last → w.specific_enthalpy d ≤ 800000000
  pub least_volume : (d : ℕ) → d ≤ w.last → 900000000 ≤ w.specific_volume d
  pub most_volume : (d : ℕ) → d ≤ w.last → w.specific_volume d ≤ 1130000000

-- They hold at every pressure.
abbrev pub Bounded : Type 0
Bounded = (p : Pressure) → TableBounds (table_of p)

-- k is the largest whole number that is not above the fraction x: k is not above it, and k + 1 is.
abbrev pub IsFloor : ℕ → Fraction → Type 0
IsFloor k x = (k * x.denominator ≤ x.numerator) × (x.numerator < (k + 1) * x.denominator)

-- A coefficient is answered exactly where no row refuses, and it is the largest whole number that is not above the exact one.
abbrev pub CoefficientExactly : Temperature → Temperature → ℕ → ℕ → Result ℕ Refusal → Type 0
CoefficientExactly ts tr place pressure answer =
    (k : ℕ) → (answer ≡ Ok k) ↔ (NoneApplies (coefficient_rows ts tr place pressure)
    × IsFloor k (exact_coefficient (table_for pressure) ts tr (at_place place ts tr)))

-- Heat or cold is answered exactly where no row refuses, and it is every whole millijoule of the exact one: less than one is left out.
abbrev pub HeatExactly : ℕ → Temperature → Temperature → ℕ → ℕ → Result ℕ Refusal → Type 0
HeatExactly u ts tr place pressure answer =
    (k : ℕ) → (answer ≡ Ok k) ↔ (NoneApplies (heat_rows u ts tr place pressure) × IsFloor k (pair_heat (table_for pressure) u ts tr place))
