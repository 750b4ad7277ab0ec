-- The theorem itself.
use Rattle.conversion.proofs.Back.{there_and_back}
use Rattle.conversion.proofs.laws.there_and_back.Goals as goal

pub returns : goal.returns
returns c = there_and_back
