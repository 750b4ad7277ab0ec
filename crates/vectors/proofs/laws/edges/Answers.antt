-- The theorem itself.
use Rattle.vectors.proofs.Edges.{edges}
use Rattle.vectors.proofs.laws.edges.Goals as goal

pub returns : goal.returns
returns c = edges
