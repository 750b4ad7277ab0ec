-- The rows of the pair, then those of the order.
use Rattle.std.proofs.Common.{sym, ◌∙◌}
use Rattle.quantity.proofs.Rows.{none_applies}
use Rattle.water.specs.Coefficient.{order_rows, coefficient_of}
use Rattle.water.proofs.Passed.{apart, first_refuses, second_refuses, neither_refuses}
use Rattle.water.proofs.heat_coefficient.coefficient_by_rows.Goals as goal

pub returns-in_err-pair : goal.returns-in_err-pair
unfolding coefficient_of
returns-in_err-pair c = first_refuses _ _ _ _ _ c.from_residual.ensures.1 c.in_err-pair.ensures.rows

pub returns-in_err-order_refusal : goal.returns-in_err-order_refusal
unfolding coefficient_of
returns-in_err-order_refusal c =
    second_refuses _ _ _ _ _ c.from_residual-in_err-order_refusal.ensures.1 c.in_ok-pair.ensures.rows
    (sym c.order_refusal.ensures ∙ c.in_err-order_refusal.was)

pub floored_coefficient-requires : goal.floored_coefficient-requires
floored_coefficient-requires c =
    let a = c.args in
    let p = c.in_ok-pair.ensures.pair in
    let none = none_applies (order_rows a.ts a.tr) (sym c.order_refusal.ensures ∙ c.in_ok-order_refusal.was) in
    rw (p.0, p.1) (apart a.ts a.tr none.0 none.1.0)

pub returns : goal.returns
unfolding coefficient_of
returns c =
    let p = c.in_ok-pair.ensures.pair in
    rw (rw (p.0, p.1, p.2, p.3) at c.floored_coefficient.ensures)
    (neither_refuses _ _ _ c.in_ok-pair.ensures.rows (sym c.order_refusal.ensures ∙ c.in_ok-order_refusal.was))
