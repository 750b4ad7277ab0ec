-- The three ways in which the step can answer, each with what it leaves behind. Every answer of the step is one of them: its contract says so
-- beside the equation with `step_of`.
use Rattle.std.specs.Prelude.{◌≡◌, Ok, Err}
use Rattle.quantity.specs.Refusals.{first_of, NoneApplies}
use Rattle.quantity.specs.declared.refusal.Refusal.{Refusal}
use Rattle.meter.specs.Card.{card_rows}
use Rattle.meter.specs.State.{state_rows}
use Rattle.meter.specs.Step.{count_rows, reading_rows, range_rows, limit_rows, sample_rows, accepting, refusing, card_and_state_rows}
use Rattle.meter.specs.declared.state.Meter.{Meter}
use Rattle.meter.specs.declared.sample.Sample.{Sample}
use Rattle.meter.specs.declared.stepping.Stepped.{Stepped}

-- No row refuses the sample: none of the meter's card and state, and none of the sample's own.
pub record NoRowRefuses (m : Meter) (s : Sample) : Type 0 where
  pub card : NoneApplies (card_rows m.card)
  pub state : NoneApplies (state_rows m)
  pub count : NoneApplies (count_rows m.card s)
  pub reading : NoneApplies (reading_rows m.card s)
  pub range : NoneApplies (range_rows m.edition m.card s)
  pub limit : NoneApplies (limit_rows m s)

-- The sample is accepted where no row refuses it. Or the first row that applies is one of the sample's own, and the refused count grows by 1. Or that
-- row is one of the card or the state, and the meter is unchanged.
pub data Answers (m : Meter) (s : Sample) : Stepped → Type 0 where
  accepts : NoRowRefuses m s → Answers m s (record { meter = accepting m s; outcome = Ok tt })
  refuses_sample : (r : Refusal) → first_of (card_and_state_rows m) ≡ Ok tt → first_of (sample_rows m s) ≡ Err r →
      Answers m s (record { meter = refusing m; outcome = Err r })
  refuses_before : (r : Refusal) → first_of (card_and_state_rows m) ≡ Err r → Answers m s (record { meter = m; outcome = Err r })
