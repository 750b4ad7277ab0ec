-- The theorems themselves.
use Rattle.meter.proofs.Existence.{calls_exist, given, only_marks, only_last}
use Rattle.meter.proofs.Own.{own_exactly}
use Rattle.meter.proofs.Theorem.{register_bounds}
use Rattle.meter.proofs.laws.register_bounds.Goals as goal

pub returns : goal.returns
returns c = record {
  register_bounds = register_bounds;
  own_exactly = own_exactly;
  calls_exist = calls_exist;
  given = given;
  only_marks = only_marks;
  only_last = only_last;
}
