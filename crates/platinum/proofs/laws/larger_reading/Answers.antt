-- The theorem itself.
use Rattle.platinum.proofs.Answer.{larger_reading}
use Rattle.platinum.proofs.laws.larger_reading.Goals as goal

pub returns : goal.returns
returns c = larger_reading
