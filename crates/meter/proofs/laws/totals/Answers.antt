-- The theorems themselves.
use Rattle.meter.proofs.Editions.{accepted_count, volume_together, kept_seconds}
use Rattle.meter.proofs.laws.totals.Goals as goal

pub returns : goal.returns
returns c = record { accepted_count = accepted_count; volume_together = volume_together; kept_seconds = kept_seconds }
