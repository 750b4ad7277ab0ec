-- What is proved of the definition's answer holds of this one.
use Rattle.meter.proofs.Theorem.{fresh_number, fresh_exactly}
use Rattle.meter.proofs.fresh_meter.fresh.Goals as goal

pub returns : goal.returns
returns c =
    let same = c.made.ensures in
    record { answer = same; number = fresh_number _ _ _ same; fresh_exactly = fresh_exactly _ _ _ same }
