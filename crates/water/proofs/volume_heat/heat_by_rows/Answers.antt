-- The rows of the pair, then the volume's.
use Rattle.std.proofs.Common.{[], ◌∷◌, sym, ◌∙◌, ltb-false}
use Rattle.quantity.proofs.Rows.{none_applies}
use Rattle.water.specs.Heat.{heat_of}
use Rattle.water.proofs.Passed.{first_refuses, second_refuses, neither_refuses}
use Rattle.water.proofs.volume_heat.heat_by_rows.Goals as goal

pub returns-in_err-pair : goal.returns-in_err-pair
unfolding heat_of
returns-in_err-pair c = first_refuses _ _ _ _ _ c.from_residual.ensures.1 c.in_err-pair.ensures.rows

pub returns-in_err-first_refusal : goal.returns-in_err-first_refusal
unfolding heat_of
returns-in_err-first_refusal c =
    second_refuses _ _ _ _ _ c.from_residual-in_err-first_refusal.ensures.1 c.in_ok-pair.ensures.rows
    (rw c.when.ensures at (sym c.first_refusal.ensures.answer ∙ c.in_err-first_refusal.was))

pub floored_heat-requires : goal.floored_heat-requires
floored_heat-requires c =
    let none = none_applies (c.when.result ∷ []) (sym c.first_refusal.ensures.answer ∙ c.in_ok-first_refusal.was) in
    ltb-false _ _ (rw c.when.ensures at none.0)

pub returns : goal.returns
unfolding heat_of
returns c =
    let p = c.in_ok-pair.ensures.pair in
    rw (rw (p.0, p.1, p.2, p.3) at c.floored_heat.ensures)
    (neither_refuses _ _ _ c.in_ok-pair.ensures.rows (rw c.when.ensures at (sym c.first_refusal.ensures.answer ∙ c.in_ok-first_refusal.was)))
