-- Row 73 did not apply.
use Rattle.std.proofs.Common.{◌∙◌, sym}
use Rattle.meter.proofs.Quarters.{admitted}
use Rattle.meter.proofs.profile.Quarter.of.Goals as goal

pub invariant_of-result : goal.invariant_of-result
invariant_of-result c = record { bounds = admitted c.args.cells c.args.index (sym c.profile_refusal.ensures ∙ c.in_ok-profile_refusal.was) }
