-- The theorems themselves.
use Rattle.meter.proofs.Along.{stays_within_limits, lacked_stays_zero, no_other_refusal, counted}
use Rattle.meter.proofs.laws.meter_along_calls.Goals as goal

pub returns : goal.returns
returns c = record {
  stays_within_limits = stays_within_limits;
  lacked_stays_zero = lacked_stays_zero;
  no_other_refusal = no_other_refusal;
  counted = counted;
}
