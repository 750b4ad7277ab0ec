-- What is proved of the definition's answer holds of this one.
use Rattle.std.proofs.Common.{rules}
use Rattle.meter.proofs.Day.{cell_as_register}
use Rattle.meter.proofs.Quarters.{in_quarter_number, in_quarter_exactly, other_cells_stay}
use Rattle.meter.proofs.profile.step_in_quarter.Goals as goal

pub returns : goal.returns
returns c =
    let same = c.taken_in_quarter.ensures in
    record {
      answer = same;
      number = in_quarter_number _ _ _ _ _ same;
      in_quarter_exactly = in_quarter_exactly _ _ _ _ _ same;
      other_cells_stay = other_cells_stay _ _ _ _ _ same;
      cell_as_register = cell_as_register _ _ _ _ _ same (search rules);
    }
