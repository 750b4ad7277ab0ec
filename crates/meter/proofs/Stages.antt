-- How the stages of the step's code join: the rows of one stage, before those of the stages after it.
-- Assumes nothing.
use mathlib.Core.Path.{◌≡◌, ◌∙◌, ap, sym}
use mathlib.Core.List.{◌++◌, append_assoc}
use Rattle.std.specs.Prelude.{Ok}
use Rattle.quantity.specs.Refusals.{first_of}
use Rattle.std.specs.Result.{result_and}
use Rattle.quantity.proofs.Rows.{none_applies, none_of_parts, parts}
use Rattle.meter.specs.Card.{card_rows}
use Rattle.meter.specs.State.{state_rows}
use Rattle.quantity.specs.declared.range.Role.TheVariants.{Supply, Return}
use Rattle.platinum.specs.Refusal.{end_rows}
use Rattle.meter.specs.Sample.{supply_of, return_of}
use Rattle.meter.specs.Step.{count_rows, reading_rows, range_rows, limit_rows, sample_rows, card_and_state_rows}
use Rattle.meter.specs.Inside.Stages.{AcceptedCard, AcceptedState, AcceptedCounts, AcceptedLimits}
use Rattle.meter.specs.declared.card.Card.{Card}
use Rattle.meter.specs.declared.state.Meter.{Meter}
use Rattle.meter.specs.declared.sample.Sample.{Sample}
use Rattle.meter.proofs.Accepted.{accepted_card, accepted_state, accepted_counts, accepted_limits}

-- where no row of a stage applies
pub before_sample : (m : Meter) → first_of (card_and_state_rows m) ≡ Ok tt → AcceptedCard m.card × AcceptedState m
before_sample m e =
    let p = none_of_parts (card_rows m.card) (state_rows m) (none_applies (card_and_state_rows m) e) in
    (accepted_card m.card p.0, accepted_state m p.1)

pub counts_pass : (c : Card) (s : Sample) → first_of (count_rows c s) ≡ Ok tt → AcceptedCounts c s
counts_pass c s e = accepted_counts c s (none_applies (count_rows c s) e)

pub limits_pass : (m : Meter) (s : Sample) → first_of (limit_rows m s) ≡ Ok tt → AcceptedLimits m s
limits_pass m s e = accepted_limits m s (none_applies (limit_rows m s) e)

-- the rows of a sample's counts and readings, stage by stage
pub counts_and_readings : (c : Card) (s : Sample) →
    first_of (count_rows c s ++ reading_rows c s) ≡ result_and (first_of (count_rows c s)) (result_and (first_of (end_rows Supply (supply_of c s))) (first_of (end_rows Return (return_of c s))))
unfolding reading_rows
counts_and_readings c s =
    let supply_rows = end_rows Supply (supply_of c s) in
    let return_rows = end_rows Return (return_of c s) in
    parts (count_rows c s) (supply_rows ++ return_rows) ∙ ap (result_and (first_of (count_rows c s))) (parts supply_rows return_rows)

-- and all rows of a sample
pub by_stages : (m : Meter) (s : Sample) →
    first_of (sample_rows m s) ≡ result_and (first_of (count_rows m.card s ++ reading_rows m.card s)) (result_and (first_of (range_rows m.edition m.card s)) (first_of (limit_rows m s)))
by_stages m s =
    ap first_of (sym (append_assoc (count_rows m.card s) (reading_rows m.card s) (range_rows m.edition m.card s ++ limit_rows m s)))
    ∙ parts (count_rows m.card s ++ reading_rows m.card s) (range_rows m.edition m.card s ++ limit_rows m s)
    ∙ ap (result_and (first_of (count_rows m.card s ++ reading_rows m.card s))) (parts (range_rows m.edition m.card s) (limit_rows m s))
