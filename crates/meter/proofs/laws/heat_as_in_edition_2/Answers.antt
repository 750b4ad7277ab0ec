-- The theorem itself.
use Rattle.meter.proofs.Alike.{heat_as_in_edition_2}
use Rattle.meter.proofs.laws.heat_as_in_edition_2.Goals as goal

pub returns : goal.returns
returns c = heat_as_in_edition_2
