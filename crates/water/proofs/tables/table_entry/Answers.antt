-- The two numbers are right where the arrays have them; where they have none, the table has no entry.
use Rattle.std.proofs.Common.{arith, ap, sym, ◌≡◌, ◌∙◌, ◌≤◌}
use Rattle.std.specs.Prelude.{Some}
use Rattle.std.specs.Result.{result_ok}
use Rattle.water.specs.Pressure.{last_of, pressure_of}
use Rattle.water.proofs.Entries.{entry_there, none_past, none_named}
use Rattle.water.proofs.tables.table_entry.Goals as goal

pub returns-in_err-pressure : goal.returns-in_err-pressure
returns-in_err-pressure c =
    let a = c.args in
    c.from_residual.ensures ∙ none_named a.degree a.pressure (ap result_ok (sym c.try_from.ensures) ∙ sym c.ok.ensures.value ∙ c.in_err-pressure.was)

pub returns-in_err-get : goal.returns-in_err-get
returns-in_err-get c =
    let a = c.args in
    let p = c.in_ok-pressure.pressure in
    let named : result_ok (pressure_of a.pressure) ≡ Some p = ap result_ok (sym c.try_from.ensures) ∙ sym c.ok.ensures.value ∙ c.in_ok-pressure.was in
    c.from_residual-in_err-get.ensures ∙ none_past a.degree a.pressure p named (omega (arith, c.columns.ensures.enthalpies.long, c.in_err-get.ensures.lookup.3))

pub returns : goal.returns
returns c =
    let a = c.args in
    let p = c.in_ok-pressure.pressure in
    let named : result_ok (pressure_of a.pressure) ≡ Some p = ap result_ok (sym c.try_from.ensures) ∙ sym c.ok.ensures.value ∙ c.in_ok-pressure.was in
    let within : a.degree ≤ last_of p = omega (arith, c.columns.ensures.enthalpies.long, c.in_ok-get.ensures.lookup.3) in
    entry_there a.degree a.pressure p named c.from.result c.from-2.result within
    (c.from.ensures ∙ c.in_ok-get.ensures.lookup.3.1 0 ∙ c.columns.ensures.enthalpies.right a.degree within)
    (c.from-2.ensures ∙ c.in_ok-get-2.ensures.lookup.3.1 0 ∙ c.columns.ensures.volumes.right a.degree within)
