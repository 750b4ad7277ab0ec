-- What is promised of the answer is promised of what reading means.
use Rattle.readout.proofs.Written.{read_number, accepted_exactly}
use Rattle.readout.proofs.reading.read_readout.Goals as goal

pub returns-clause-number : goal.returns-clause-number
returns-clause-number c = read_number _ _ c.read_records.ensures

pub returns-clause-accepted_exactly : goal.returns-clause-accepted_exactly
returns-clause-accepted_exactly c = accepted_exactly _ _ c.read_records.ensures
