-- The law itself.
use Rattle.lines.proofs.Openings.{opening_bytes}
use Rattle.lines.proofs.laws.opening_bytes.Goals as goal

pub returns : goal.returns
returns c = opening_bytes
