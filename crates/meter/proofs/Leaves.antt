-- What a call leaves behind, whichever function it is of: all that the laws along the calls rest on, but for the count of calls (`one_counted`).
-- Assumes nothing.
use mathlib.Core.Path.{◌≡◌}
use mathlib.Core.List.{List}
use Prim.Native.Nat.{ℕ, ◌+◌, ◌<◌}
use Rattle.quantity.specs.Refusals.{first_of}
use Rattle.std.specs.Prelude.{Result, Ok, Err}
use Rattle.quantity.specs.declared.refusal.Refusal.{Refusal}
use Rattle.quantity.proofs.Rows.{none_applies, none_of_parts}
use Rattle.meter.specs.Card.{card_rows}
use Rattle.meter.specs.State.{state_rows, largest_count}
use Rattle.meter.specs.Step.{accepting, refusing, card_and_state_rows, step_of}
use Rattle.meter.specs.Profile.{profile_rows, by_profile, in_quarter_of}
use Rattle.meter.specs.Run.{Asking, asks_step, asks_in_quarter, sample_asked, answer_of}
use Rattle.meter.specs.Answers.{NoRowRefuses, Answers, accepts, refuses_sample, refuses_before}
use Rattle.meter.specs.declared.state.Meter.{Meter}
use Rattle.meter.specs.declared.sample.Sample.{Sample}
use Rattle.meter.specs.declared.stepping.Stepped.{Stepped}
use Rattle.meter.proofs.Accepted.{accepted_state}
use Rattle.meter.proofs.Answers.{step_answers}

-- a sample that no row refuses is added; a refused one is counted, where the counts have room, or leaves the meter unchanged
pub data Leaves (m : Meter) (s : Sample) : Stepped → Type 0 where
  adds : NoRowRefuses m s → Leaves m s (record { meter = accepting m s; outcome = Ok tt })
  counts : (n : Refusal) → m.accepted + m.refused < largest_count → Leaves m s (record { meter = refusing m; outcome = Err n })
  keeps : (n : Refusal) → Leaves m s (record { meter = m; outcome = Err n })

-- the counts have room where no row of card or state refuses
pub room : (m : Meter) → first_of (card_and_state_rows m) ≡ Ok tt → m.accepted + m.refused < largest_count
room m e = (accepted_state m (none_of_parts (card_rows m.card) (state_rows m) (none_applies (card_and_state_rows m) e)).1).counts

by_answer : (m : Meter) (s : Sample) (a : Stepped) → Answers m s a → Leaves m s a
by_answer m s a (accepts h) = adds h
by_answer m s a (refuses_sample n e f) = counts n (room m e)
by_answer m s a (refuses_before n e) = keeps n

pub step_leaves : (m : Meter) (s : Sample) → Leaves m s (step_of m s)
step_leaves m s = by_answer m s (step_of m s) (step_answers m s)

by_profile_lem : (m : Meter) (cells : List ℕ) (s : Sample) (index : ℕ) (o : Result Unit Refusal) → Leaves m s (by_profile m cells s index o).stepped
by_profile_lem m cells s index (Ok u) = step_leaves m s
by_profile_lem m cells s index (Err n) = keeps n

in_quarter_leaves : (m : Meter) (cells : List ℕ) (s : Sample) (index : ℕ) → Leaves m s (in_quarter_of m cells s index).stepped
unfolding in_quarter_of
in_quarter_leaves m cells s index = by_profile_lem m cells s index (first_of (profile_rows cells index))

-- so does each kind of call
pub leaves : (m : Meter) (q : Asking) → Leaves m (sample_asked q) (answer_of m q)
leaves m (asks_step s) = step_leaves m s
leaves m (asks_in_quarter cells s index) = in_quarter_leaves m cells s index
