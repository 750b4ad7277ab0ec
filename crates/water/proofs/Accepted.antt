-- Where no row applies, heat and coefficient are the floor of the exact fraction, and only there.
-- Assumes nothing.
use mathlib.Core.Path.{◌≡◌, refl, sym, ◌∙◌, subst}
use mathlib.Core.Bool.{false}
use mathlib.Core.List.{List}
use mathlib.Core.Logic.{◌↔◌}
use Prim.Native.Nat.{ℕ, ◌*◌, ◌≤◌}
use native.Mathlib.Nat.{mul-pos, div-mul-le_self, lt-div-mul-add, div-eq_of_lt-le}
use native.Mathlib.Omega.{arith}
use borrow.Author.Tests.{le-ltb}
use Rattle.std.specs.Prelude.{Result, Ok}
use Rattle.std.specs.Result.{is_err, result_and}
use Rattle.quantity.specs.Fractions.{IsFraction, floored}
use Rattle.quantity.specs.Refusals.{outside, first_of, NoneApplies}
use Rattle.quantity.specs.Units.{distance_of}
use Rattle.quantity.specs.declared.fraction.Fraction.{Fraction}
use Rattle.quantity.specs.declared.refusal.Refusal.{Refusal}
use Rattle.quantity.specs.declared.refusal.Row.{Row}
use Rattle.quantity.specs.declared.units.Temperature.{Temperature}
use Rattle.quantity.proofs.Rows.{answered, none_applies, no_refusal, none_of_parts}
use Rattle.water.specs.Table.{Table, table_for}
use Rattle.water.specs.Pair.{at_place, pair_rows}
use Rattle.water.specs.Coefficient.{order_rows, exact_coefficient, coefficient_rows, coefficient_of}
use Rattle.water.specs.Heat.{most_millilitres, pair_heat, heat_rows, heat_of}
use Rattle.water.specs.Theorems.{TableBounds, IsFloor, CoefficientExactly, HeatExactly}
use Rattle.water.specs.Pressure.{pressure_of}
use Rattle.water.proofs.Bounds.{bounded}
use Rattle.water.proofs.ExactHeats.{heat_is_fraction, of_either_order}
use Rattle.water.proofs.Passed.{apart}
use Rattle.water.proofs.Properties.{volume_above_zero}

-- for callers that have tried the rows before
pub heat_accepted :
    (u : ℕ) (ts tr : Temperature) (place pressure : ℕ) →
    outside place 1 2 ≡ false → is_err (pressure_of pressure) ≡ false → ts.0 ≤ 100 * (table_for pressure).last → tr.0 ≤ 100 * (table_for pressure).last →
    u ≤ most_millilitres → heat_of u ts tr place pressure ≡ Ok (floored (pair_heat (table_for pressure) u ts tr place))
unfolding heat_of
heat_accepted u ts tr place pressure p named q r s =
    let last = (table_for pressure).last in
    simp (
      heat_of,
      no_refusal (heat_rows u ts tr place pressure) (
        p,
        (named, (le-ltb (last * 100) ts.0 (omega arith), (le-ltb (last * 100) tr.0 (omega arith), (le-ltb most_millilitres u s, tt)))),
      ),
    )

-- the floor of a fraction is the largest whole number in it
floor_of : (x : Fraction) → IsFraction x → IsFloor (floored x) x
floor_of x p = (div-mul-le_self _ _, omega (arith, lt-div-mul-add {a = x.numerator} p))

answered_exactly :
    (rs : List Row) (x : Fraction) → (NoneApplies rs → IsFraction x) →
    (k : ℕ) → (result_and (first_of rs) (Ok (floored x)) ≡ Ok k) ↔ (NoneApplies rs × IsFloor k x)
answered_exactly rs x p k = (
  λ e.
      let a = answered (first_of rs) (floored x) k e in
      let none = none_applies rs a.0 in
      (none, subst (λ (y : ℕ). IsFloor y x) a.1 (floor_of x (p none))),
  λ h.
      let same : floored x ≡ k = div-eq_of_lt-le _ h.1.0 h.1.1 in
      rw (no_refusal rs h.0, same) refl,
)

pub heat_exactly :
    (u : ℕ) (ts tr : Temperature) (place pressure : ℕ) (y : Result ℕ Refusal) →
    y ≡ heat_of u ts tr place pressure → HeatExactly u ts tr place pressure y
unfolding heat_of
heat_exactly u ts tr place pressure y same k =
    let exactly = answered_exactly (heat_rows u ts tr place pressure) (pair_heat (table_for pressure) u ts tr place) (λ none. fraction) k in
    (λ e. exactly.0 (sym same ∙ e), λ h. same ∙ exactly.1 h)
  where
    fraction : IsFraction (pair_heat (table_for pressure) u ts tr place)
    fraction =
        let w = table_for pressure in
        let b = bounded _ in
        of_either_order IsFraction w u ts tr place (λ e. heat_is_fraction w b u tr ts _) (λ e. heat_is_fraction w b u ts tr _)

-- where the order of the two temperatures is not refused they differ, so that the exact coefficient is a fraction
coefficient_is_fraction :
    (w : Table) → TableBounds w → (ts tr measured : Temperature) → NoneApplies (order_rows ts tr) → IsFraction (exact_coefficient w ts tr measured)
unfolding exact_coefficient distance_of
coefficient_is_fraction w b ts tr measured none = mul-pos (volume_above_zero w b measured) (omega (arith, apart ts tr none.0 none.1.0))

pub coefficient_exactly :
    (ts tr : Temperature) (place pressure : ℕ) (y : Result ℕ Refusal) →
    y ≡ coefficient_of ts tr place pressure → CoefficientExactly ts tr place pressure y
unfolding coefficient_of
coefficient_exactly ts tr place pressure y same k =
    let w = table_for pressure in
    let exactly =
    answered_exactly (coefficient_rows ts tr place pressure) (exact_coefficient w ts tr (at_place place ts tr))
    (λ none. coefficient_is_fraction w (bounded _) ts tr _ (none_of_parts (pair_rows ts tr place pressure) (order_rows ts tr) none).1) k in
    (λ e. exactly.0 (sym same ∙ e), λ h. same ∙ exactly.1 h)
