-- Where no row applies, both temperatures lie in the table.
use Rattle.std.proofs.Common.{sym, ◌∙◌}
use Rattle.water.proofs.Passed.{passed}
use Rattle.water.proofs.pair.Pair.new.Goals as goal

pub water_at-requires : goal.water_at-requires
water_at-requires c =
    let a = c.args in
    rw c.asked_pressure-at.ensures (passed a.ts a.tr a.place a.pressure (sym c.pair_refusal.ensures ∙ c.in_ok-pair_refusal.was)).supply

pub water_at-requires-2 : goal.water_at-requires-2
water_at-requires-2 c =
    let a = c.args in
    rw c.asked_pressure-at.ensures (passed a.ts a.tr a.place a.pressure (sym c.pair_refusal.ensures ∙ c.in_ok-pair_refusal.was)).return
