-- Where a meter is answered, no row refused the sample.
use Rattle.std.proofs.Common.{refl, sym, ◌∙◌}
use Rattle.quantity.specs.Refusals.{first_of}
use Rattle.quantity.proofs.Rows.{answered}
use Rattle.meter.specs.Step.{sample_rows, accepting}
use Rattle.meter.proofs.usable.Usable.take.Goals as goal

pub returns-in-Ok : goal.returns-in-Ok
returns-in-Ok c =
    let m = c.args.self.meter in
    let a = answered (first_of (sample_rows m c.args.s)) (accepting m c.args.s) c.in-Ok.meter (sym c.accept.ensures ∙ c.in-Ok.is) in
    rw (a.0, a.1) refl
