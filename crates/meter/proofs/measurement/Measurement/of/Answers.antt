-- The facts of the measurement: that of the counts' rows, and what the two readings give.
use Rattle.std.proofs.Common.{refl, sym, ◌∙◌}
use Rattle.meter.specs.Sample.{volume_of}
use Rattle.meter.proofs.Stages.{counts_pass}
use Rattle.meter.proofs.measurement.Measurement.of.Goals as goal

pub invariant_of-result : goal.invariant_of-result
unfolding volume_of
invariant_of-result c = record {
  count_bounds = counts_pass _ _ (sym c.count_refusal.ensures ∙ c.in_ok-count_refusal.was);
  volume_is = refl;
  supply_is = c.in_ok-supply_temperature.ensures.value;
  return_is = c.in_ok-return_temperature.ensures.value;
}
