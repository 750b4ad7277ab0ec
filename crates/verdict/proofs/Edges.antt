-- The verdicts at the edges of the limits (`VerdictEdges`), computed by the definitions.
-- Assumes nothing.
use mathlib.Core.Path.{refl}
use Rattle.quantity.specs.Refusals.{outside, first_of}
use Rattle.quantity.specs.Fractions.{plus, times, smaller}
use Rattle.verdict.specs.Limit.{figures_of, calculator_limit, pair_limit, flow_sensor_sum, flow_sensor_limit, complete_limit, part_limit, limit_of}
use Rattle.verdict.specs.Rows.{difference_outside, flow_outside, value_outside}
use Rattle.verdict.specs.Verdict.{passes, verdict_of}
use Rattle.verdict.specs.Theorems.{VerdictEdges}

pub verdict_edges : VerdictEdges
unfolding verdict_of passes limit_of part_limit complete_limit flow_sensor_limit flow_sensor_sum pair_limit calculator_limit figures_of smaller times plus first_of outside difference_outside flow_outside value_outside
verdict_edges = record {
  calculator_upper = refl;
  calculator_above = refl;
  calculator_lower = refl;
  calculator_below = refl;
  complete_upper = refl;
  complete_above = refl;
  flow_sensor_upper = refl;
  flow_sensor_above = refl;
}
