-- What holds of a pair of temperatures that no row refuses, and the answer of rows that are tried in two parts.
-- Assumes nothing.
use mathlib.Core.Path.{◌≡◌, refl}
use mathlib.Core.Bool.{false}
use mathlib.Core.List.{List, ◌++◌}
use Prim.Native.Nat.{ℕ, ◌*◌, ◌≤◌, ◌<◌}
use native.Mathlib.Omega.{arith}
use lib.Dec.{eqb}
use Rattle.std.proofs.lemmas.Bool.Decides.{nat_tests}
use borrow.Author.Tests.{ltb-false}
use Rattle.std.specs.Prelude.{Result, Ok, Err}
use Rattle.std.specs.Result.{result_and, IsErrAnd}
use Rattle.std.proofs.lemmas.Result.{err_from_is_err_and}
use Rattle.quantity.specs.declared.units.Temperature.{Temperature}
use Rattle.quantity.specs.declared.refusal.Refusal.{Refusal}
use Rattle.quantity.specs.declared.refusal.Row.{Row}
use Rattle.quantity.specs.Units.{is_colder}
use Rattle.quantity.specs.Refusals.{first_of}
use Rattle.quantity.proofs.Rows.{none_applies, parts}
use Rattle.quantity.specs.Units.{last_degree}
use Rattle.water.specs.Pressure.{last_of}
use Rattle.water.specs.declared.pressure.Pressure.{Pressure}
use Rattle.water.specs.declared.pressure.Pressure.TheVariants.{Bar6, Bar16}
use Rattle.water.specs.Table.{table_for}
use Rattle.water.specs.Pair.{are_equal, pair_rows}

-- no table ends above the range of temperatures
pub last_most : (p : Pressure) → last_of p ≤ last_degree
unfolding last_of
last_most Bar6 = omega arith
last_most Bar16 = omega arith

pub record Passed (ts tr : Temperature) (pressure : ℕ) : Type 0 where
  pub supply : ts.0 ≤ 100 * (table_for pressure).last
  pub return : tr.0 ≤ 100 * (table_for pressure).last

pub passed : (ts tr : Temperature) (place pressure : ℕ) → first_of (pair_rows ts tr place pressure) ≡ Ok tt → Passed ts tr pressure
passed ts tr place pressure e =
    let none = none_applies (pair_rows ts tr place pressure) e in
    let last = (table_for pressure).last in
    record {
      supply = omega (arith, ltb-false (last * 100) ts.0 none.1.1.0);
      return = omega (arith, ltb-false (last * 100) tr.0 none.1.1.1.0);
    }

-- a supply that is neither the colder nor equal is the warmer
pub apart : (a b : Temperature) → is_colder a b ≡ false → are_equal a b ≡ false → b.0 < a.0
apart a b p q = grind (arith, nat_tests)

-- two temperatures are equal as their hundredths are
pub equal_exactly : (a b : Temperature) → eqb a.0 b.0 ≡ are_equal a b
equal_exactly a b = grind (arith, nat_tests)

-- the first part refuses, or else the second, or else there is the value
module _ (rs ss : List Row) (answer : Result ℕ Refusal) where
  pub first_refuses :
      (out : Result ℕ Refusal) (r : Refusal) → IsErrAnd out (λ e. e ≡ r) → first_of rs ≡ Err r →
      out ≡ result_and (first_of (rs ++ ss)) answer
  first_refuses out r h e =
      let p = err_from_is_err_and out h in
      rw (parts rs ss, e, p.1, p.2) refl

  pub second_refuses :
      (out : Result ℕ Refusal) (r : Refusal) → IsErrAnd out (λ e. e ≡ r) → first_of rs ≡ Ok tt → first_of ss ≡ Err r →
      out ≡ result_and (first_of (rs ++ ss)) answer
  second_refuses out r h e f =
      let p = err_from_is_err_and out h in
      rw (parts rs ss, e, f, p.1, p.2) refl

  pub neither_refuses : first_of rs ≡ Ok tt → first_of ss ≡ Ok tt → answer ≡ result_and (first_of (rs ++ ss)) answer
  neither_refuses e f = rw (parts rs ss, e, f) refl
