-- The rows that the code gives are the definition's, one for one.
use Rattle.meter.specs.Card.{card_rows}
use Rattle.meter.proofs.card.Card.refusal.Goals as goal

pub returns-clause-answer : goal.returns-clause-answer
unfolding card_rows
returns-clause-answer c =
    simp (
      c.first_refusal.ensures.answer,
      c.when.ensures,
      c.when-2.ensures,
      c.when-3.ensures,
      c.when-4.ensures,
      c.when-5.ensures,
      c.when-6.ensures,
      c.when-7.ensures,
      c.when-8.ensures,
      c.when-9.ensures,
      c.when-10.ensures,
      c.is_outside.ensures,
      c.is_outside-2.ensures,
      c.is_sensor_unknown.ensures,
      c.is_outside-3.ensures,
      c.is_theta_refused.ensures,
      c.is_outside-4.ensures,
      c.is_delta_max_refused.ensures,
      c.are_flows_refused.ensures,
      c.is_outside-5.ensures,
      c.is_pressure_refused.ensures,
    )
