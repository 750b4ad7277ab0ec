-- What is known of a card, a state and a sample once their rows have not applied: the types that hold them between the stages of the step carry it.
-- No public operation means it: what the step answers is `step_of` of specs/Step.antt, for all inputs.
use Rattle.std.specs.Prelude.{◌≡◌, false, ◌+◌, ◌*◌, ◌^◌, ◌≤◌, ◌<◌}
use Rattle.quantity.specs.Refusals.{outside}
use Rattle.quantity.specs.Units.{last_degree, largest_kelvins}
use Rattle.meter.specs.Edition.{is_other_edition}
use Rattle.meter.specs.State.{largest_register, largest_volume, largest_count, most_seconds}
use Rattle.quantity.specs.Fractions.{floored}
use Rattle.std.specs.Result.{is_err}
use Rattle.water.specs.Pressure.{pressure_of}
use Rattle.water.specs.Table.{table_for}
use Rattle.water.specs.Heat.{most_millilitres}
use Rattle.meter.specs.Sample.{volume_of, sample_heat}
use Rattle.meter.specs.Register.{register_of, own_register}
use Rattle.meter.specs.Theorems.{LackedZero}
use Rattle.meter.specs.declared.card.Card.{Card}
use Rattle.meter.specs.declared.register.Register.{Register}
use Rattle.meter.specs.declared.state.Meter.{Meter}
use Rattle.meter.specs.declared.sample.Sample.{Sample}

-- Of a card that none of its rows refuses: those bounds of its numbers that the code and its proofs need.
pub record AcceptedCard (c : Card) : Type 0 where
  pub serial : c.serial ≤ 99999999
  pub sensor : c.sensor ≤ 1000
  pub place : outside c.place 1 2 ≡ false
  pub ml : (1 ≤ c.ml_per_pulse) × (c.ml_per_pulse ≤ 100000)
  pub theta : (c.theta_min < c.theta_max) × (c.theta_max ≤ last_degree)
  pub delta_min : (1 ≤ c.delta_min) × (c.delta_min ≤ 3)
  pub delta_max : (10 * c.delta_min ≤ c.delta_max) × (c.delta_max ≤ largest_kelvins)
  pub flow : c.qs ≤ 10 ^ 9
  pub flows : (c.qi ≤ c.qp) × (c.qp ≤ c.qs)
  pub power : (1 ≤ c.ps) × (c.ps ≤ 10 ^ 9)
  pub pressure : (is_err (pressure_of c.pressure) ≡ false) × (c.theta_max ≤ (table_for c.pressure).last)

-- Of a state that neither 20 nor 21 refuses: its totals are within their limits, with room for one count more, and fit its edition.
pub record AcceptedState (m : Meter) : Type 0 where
  pub registers : (r : Register) → register_of r m ≤ largest_register
  pub volume : m.volume ≤ largest_volume
  pub counts : m.accepted + m.refused < largest_count
  pub edition : is_other_edition m.edition ≡ false
  pub kept : m.kept_seconds ≤ most_seconds * m.accepted
  pub lacked : LackedZero m.edition m

-- Of a sample that neither 30 nor 31 refuses: it is short and small enough for its products to fit 64 bits.
pub record AcceptedCounts (c : Card) (s : Sample) : Type 0 where
  pub seconds : (1 ≤ s.seconds) × (s.seconds ≤ most_seconds)
  pub pulses : s.pulses ≤ 1000000
  pub volume : volume_of c s ≤ most_millilitres

-- Of a sample that 41 does not refuse: there is room for it in its own register and in the volume.
pub record AcceptedLimits (m : Meter) (s : Sample) : Type 0 where
  pub own : register_of (own_register m.card s) m + floored (sample_heat m.card s) ≤ largest_register
  pub volume : m.volume + volume_of m.card s ≤ largest_volume
