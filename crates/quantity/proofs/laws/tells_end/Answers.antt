-- The theorem itself.
use Rattle.quantity.proofs.Ends.{tells_end}
use Rattle.quantity.proofs.laws.tells_end.Goals as goal

pub returns : goal.returns
returns c = tells_end
