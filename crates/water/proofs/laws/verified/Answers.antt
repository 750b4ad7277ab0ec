-- The theorem itself.
use Rattle.water.proofs.Verification.{verified}
use Rattle.water.proofs.laws.verified.Goals as goal

pub returns : goal.returns
returns c = verified
