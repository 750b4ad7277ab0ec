-- The answer is the definition's, of which the number and the theorem speak.
use Rattle.std.proofs.Common.{ap, ◌∙◌}
use Rattle.quantity.specs.Refusals.{refusal_number}
use Rattle.water.specs.Heat.{heat_rows, heat_of}
use Rattle.quantity.proofs.Rows.{number_of_rows}
use Rattle.water.proofs.Accepted.{heat_exactly}
use Rattle.water.proofs.volume_heat.heat.Goals as goal

pub returns-clause-number : goal.returns-clause-number
unfolding heat_of
returns-clause-number c =
    let a = c.args in
    ap refusal_number c.heat_by_rows.ensures ∙ number_of_rows (heat_rows a.u a.ts a.tr a.place a.pressure) _

pub returns-clause-heat_exactly : goal.returns-clause-heat_exactly
returns-clause-heat_exactly c = heat_exactly _ _ _ _ _ _ c.heat_by_rows.ensures
