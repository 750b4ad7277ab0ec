-- No row of the ranges applied, and then none of the limits.
use Rattle.std.proofs.Common.{◌∙◌, sym}
use Rattle.quantity.proofs.Rows.{none_applies}
use Rattle.meter.specs.Step.{range_rows}
use Rattle.meter.proofs.Stages.{limits_pass}
use Rattle.meter.proofs.usable.Usable.accept.Goals as goal

pub heat-requires : goal.heat-requires
heat-requires c = none_applies (range_rows _ _ _) (sym c.range_refusal.ensures ∙ c.in_ok-range_refusal.was)

pub added-requires-clause-limits : goal.added-requires-clause-limits
added-requires-clause-limits c = limits_pass _ _ (sym c.limit_refusal.ensures ∙ c.in_ok-limit_refusal.was)
