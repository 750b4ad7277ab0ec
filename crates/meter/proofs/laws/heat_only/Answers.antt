-- The theorem itself.
use Rattle.meter.proofs.Editions.{heat_only}
use Rattle.meter.proofs.laws.heat_only.Goals as goal

pub returns : goal.returns
returns c = heat_only
