-- What the step's definition amounts to, for an accepted sample and for a refused one.
-- Assumes nothing.
use mathlib.Core.Path.{◌≡◌, refl, sym, ap, ◌∙◌, subst}
use mathlib.Core.Bool.{true}
use mathlib.Core.List.{◌++◌}
use Rattle.quantity.specs.Refusals.{refusal_number, first_of, first_number, NoneApplies}
use Rattle.std.specs.Prelude.{Result, Ok, Err}
use Rattle.std.specs.Result.{result_and}
use Rattle.quantity.specs.declared.refusal.Refusal.{Refusal}
use Rattle.quantity.proofs.Rows.{first_number_lem, parts, none_applies, no_refusal, none_of_parts, none_together}
use Rattle.meter.specs.Card.{card_rows}
use Rattle.meter.specs.State.{state_rows}
use Rattle.meter.specs.Step.{count_rows, reading_rows, range_rows, limit_rows, sample_rows, accepting, by_sample, by_card_and_state, card_and_state_rows, step_of}
use Rattle.meter.specs.Calls.{is_accepted}
use Rattle.meter.specs.Answers.{NoRowRefuses, Answers, accepts, refuses_sample, refuses_before}
use Rattle.meter.specs.Theorems.{AcceptedExactly, AcceptedHasTemperatures}
use Rattle.meter.specs.declared.state.Meter.{Meter}
use Rattle.meter.specs.declared.sample.Sample.{Sample}
use Rattle.meter.specs.declared.stepping.Stepped.{Stepped}
use Rattle.meter.proofs.Accepted.{accepted_readings}

no_row_refuses : (m : Meter) (s : Sample) → NoneApplies (card_and_state_rows m) → NoneApplies (sample_rows m s) → NoRowRefuses m s
no_row_refuses m s h g =
    let p = none_of_parts (card_rows m.card) (state_rows m) h in
    let q = none_of_parts (count_rows m.card s) _ g in
    let r = none_of_parts (reading_rows m.card s) _ q.1 in
    let t = none_of_parts (range_rows m.edition m.card s) (limit_rows m s) r.1 in
    record { card = p.0; state = p.1; count = q.0; reading = r.0; range = t.0; limit = t.1 }

by_sample_lem : (m : Meter) (s : Sample) (o : Result Unit Refusal) → first_of (card_and_state_rows m) ≡ Ok tt → first_of (sample_rows m s) ≡ o → Answers m s (by_sample m s o)
by_sample_lem m s (Ok u) e f = accepts (no_row_refuses m s (none_applies (card_and_state_rows m) e) (none_applies (sample_rows m s) f))
by_sample_lem m s (Err n) e f = refuses_sample n e f

by_card_and_state_lem : (m : Meter) (s : Sample) (o : Result Unit Refusal) → first_of (card_and_state_rows m) ≡ o → Answers m s (by_card_and_state m s o)
by_card_and_state_lem m s (Ok u) e = by_sample_lem m s _ e refl
by_card_and_state_lem m s (Err n) e = refuses_before n e

pub step_answers : (m : Meter) (s : Sample) → Answers m s (step_of m s)
unfolding step_of
step_answers m s = by_card_and_state_lem m s _ refl

pub answers : (m : Meter) (s : Sample) (a : Stepped) → a ≡ step_of m s → Answers m s a
answers m s a same = subst (Answers m s) (sym same) (step_answers m s)

-- the outcome is what all rows give, those of card and state before those of the sample
pub step_outcome : (m : Meter) (s : Sample) → (step_of m s).outcome ≡ first_of (card_and_state_rows m ++ sample_rows m s)
unfolding step_of
step_outcome m s = by (first_of (card_and_state_rows m)) ∙ sym (parts (card_and_state_rows m) (sample_rows m s))
  where
    of_sample : (o : Result Unit Refusal) → (by_sample m s o).outcome ≡ o
    of_sample (Ok u) = refl
    of_sample (Err n) = refl

    by : (o : Result Unit Refusal) → (by_card_and_state m s o).outcome ≡ result_and o (first_of (sample_rows m s))
    by (Ok u) = of_sample (first_of (sample_rows m s))
    by (Err n) = refl

-- so its number is that of the first row that applies
pub step_number : (m : Meter) (s : Sample) (a : Stepped) → a ≡ step_of m s → refusal_number a.outcome ≡ first_number (card_and_state_rows m ++ sample_rows m s)
step_number m s a same =
    ap (λ (x : Stepped). refusal_number x.outcome) same
    ∙ ap refusal_number (step_outcome m s)
    ∙ first_number_lem (card_and_state_rows m ++ sample_rows m s)

-- a sample is accepted exactly when no row refuses it
when_accepted : (m : Meter) (s : Sample) (a : Stepped) → Answers m s a → is_accepted a.outcome ≡ true → NoRowRefuses m s
when_accepted m s a (accepts h) e = h
when_accepted m s a (refuses_sample n f g) e = absurd cc
when_accepted m s a (refuses_before n f) e = absurd cc

pub not_refused : (m : Meter) (s : Sample) → NoRowRefuses m s → step_of m s ≡ record { meter = accepting m s; outcome = Ok tt }
unfolding step_of
not_refused m s h =
    simp (
      no_refusal (card_and_state_rows m) (none_together (card_rows m.card) (state_rows m) h.card h.state),
      no_refusal (sample_rows m s)
          (none_together (count_rows m.card s) _ h.count
          (none_together (reading_rows m.card s) _ h.reading (none_together (range_rows m.edition m.card s) (limit_rows m s) h.range h.limit))),
    )

pub accepted_exactly : (m : Meter) (s : Sample) (a : Stepped) → a ≡ step_of m s → AcceptedExactly m s a
accepted_exactly m s a same = (
  when_accepted m s a (answers m s a same),
  λ h. ap (λ (x : Stepped). is_accepted x.outcome) (same ∙ not_refused m s h),
)

-- so both its readings have a temperature
pub accepted_has_temperatures : (m : Meter) (s : Sample) (a : Stepped) → a ≡ step_of m s → AcceptedHasTemperatures m.card s a
accepted_has_temperatures m s a same e = accepted_readings m.card s ((accepted_exactly m s a same).0 e).reading
