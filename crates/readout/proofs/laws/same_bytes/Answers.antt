-- The law itself.
use Rattle.readout.proofs.Written.{same_bytes}
use Rattle.readout.proofs.laws.same_bytes.Goals as goal

pub returns : goal.returns
returns c = same_bytes
