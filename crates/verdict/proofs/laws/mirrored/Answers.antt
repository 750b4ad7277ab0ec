-- The theorem itself.
use Rattle.verdict.proofs.Mirrored.{mirrored}
use Rattle.verdict.proofs.laws.mirrored.Goals as goal

pub returns : goal.returns
returns c = mirrored
