-- The theorem itself.
use Rattle.verdict.proofs.Certificate.{from_pair}
use Rattle.verdict.proofs.laws.from_pair.Goals as goal

pub returns : goal.returns
returns c = from_pair
