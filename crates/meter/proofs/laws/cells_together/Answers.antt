-- The theorems themselves.
use Rattle.meter.proofs.Day.{cells_together, cells_within_limit, index_alone, day_exists, only_day, day_stands}
use Rattle.meter.proofs.laws.cells_together.Goals as goal

pub returns : goal.returns
returns c = record {
  cells_together = cells_together;
  cells_within_limit = cells_within_limit;
  index_alone = index_alone;
  day_exists = day_exists;
  only_day = only_day;
  day_stands = day_stands;
}
