-- No row of card or state applied.
use Rattle.std.proofs.Common.{◌∙◌, sym}
use Rattle.meter.proofs.Stages.{before_sample}
use Rattle.meter.proofs.usable.Usable.of.Goals as goal

pub invariant_of-result : goal.invariant_of-result
invariant_of-result c =
    let p = before_sample c.args.meter (sym c.refusal.ensures ∙ c.in_ok-refusal.was) in
    record { card_bounds = p.0; state_bounds = p.1 }
