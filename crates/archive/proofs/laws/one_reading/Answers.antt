-- The law itself.
use Rattle.archive.proofs.Readings.{one_reading}
use Rattle.archive.proofs.laws.one_reading.Goals as goal

pub returns : goal.returns
returns c = one_reading
