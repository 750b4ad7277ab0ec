-- What is measured is the temperature by its definition; the other clauses are laws of that.
use Rattle.platinum.proofs.Answer.{refusal, number, measured_exactly}
use Rattle.platinum.proofs.Ends.{unmeasured_exactly}
use Rattle.platinum.proofs.reading.temperature.Goals as goal

pub returns-clause-refusal : goal.returns-clause-refusal
returns-clause-refusal c = refusal c.args.field c.args.reading _ c.measured.ensures

pub returns-clause-number : goal.returns-clause-number
returns-clause-number c = number c.args.field c.args.reading _ c.measured.ensures

pub returns-clause-measured_exactly : goal.returns-clause-measured_exactly
returns-clause-measured_exactly c = measured_exactly c.args.field c.args.reading _ c.measured.ensures

pub returns-clause-unmeasured_exactly : goal.returns-clause-unmeasured_exactly
returns-clause-unmeasured_exactly c = unmeasured_exactly c.args.field c.args.reading _ c.measured.ensures
