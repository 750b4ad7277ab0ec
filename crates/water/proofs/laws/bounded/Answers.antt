-- The theorem itself.
use Rattle.water.proofs.Bounds.{bounded}
use Rattle.water.proofs.laws.bounded.Goals as goal

pub returns : goal.returns
returns c = bounded
