-- The theorem itself.
use Rattle.verdict.proofs.Widened.{in_service}
use Rattle.verdict.proofs.laws.in_service.Goals as goal

pub returns : goal.returns
returns c = in_service
