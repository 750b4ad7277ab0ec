-- The heat of an accepted sample, as the water's operation answers it.
-- Assumes nothing.
use mathlib.Core.Path.{◌≡◌}
use Prim.Native.Nat.{ℕ}
use Rattle.quantity.specs.Fractions.{floored}
use Rattle.water.specs.Heat.{heat_of}
use Rattle.water.proofs.Accepted.{heat_accepted}
use Rattle.std.specs.Prelude.{Ok}
use Rattle.meter.specs.Inside.Stages.{AcceptedCard, AcceptedCounts}
use Rattle.quantity.specs.Refusals.{NoneApplies}
use Rattle.meter.specs.Step.{range_rows}
use Rattle.meter.specs.Sample.{volume_of, ts, tr, sample_heat}
use Rattle.meter.specs.declared.card.Card.{Card}
use Rattle.meter.specs.declared.sample.Sample.{Sample}
use Rattle.meter.proofs.Accepted.{in_table}

-- the water's operation refuses nothing of an accepted sample: it answers the floor of the sample's exact heat
pub of_sample : (e : ℕ) (c : Card) (s : Sample) → AcceptedCard c → AcceptedCounts c s → NoneApplies (range_rows e c s) →
    heat_of (volume_of c s) (ts c s) (tr c s) c.place c.pressure ≡ Ok (floored (sample_heat c s))
unfolding sample_heat
of_sample e c s h g r =
    let t = in_table e c s h r in
    heat_accepted (volume_of c s) (ts c s) (tr c s) c.place c.pressure h.place h.pressure.0 t.of_supply t.of_return g.volume
