-- The theorem itself.
use Rattle.verdict.proofs.Comparisons.{equal_comparisons}
use Rattle.verdict.proofs.laws.equal_comparisons.Goals as goal

pub returns : goal.returns
returns c = equal_comparisons
