-- What stays true along the calls from a fresh meter.
-- Assumes nothing.
use mathlib.Core.Path.{◌≡◌, refl, sym, ◌∙◌, ap, subst}
use mathlib.Core.List.{List, [], ◌∷◌}
use mathlib.Core.Bool.{Bool, true, false, cond}
use mathlib.Core.Logic.{◌⊎◌, inl, inr}
use Prim.Native.Nat.{ℕ, ◌+◌, ◌≤◌}
use native.Mathlib.Omega.{arith}
use lib.Dec.{eqb}
use borrow.Author.Tests.{le-ltb, eq-eqb, ne_eqb}
use Rattle.quantity.specs.Refusals.{number_of, refusal_number, first_of}
use Rattle.quantity.specs.Range.{refusal_at_end}
use Rattle.std.specs.Prelude.{Result, Ok, Err}
use Rattle.quantity.specs.declared.refusal.Refusal.{Refusal}
use Rattle.quantity.specs.declared.refusal.Refusal.TheVariants.{CountsFull, Profile}
use Rattle.std.specs.Result.{result_and}
use Rattle.std.proofs.Common.{rules}
use Rattle.quantity.proofs.Rows.{parts, of_some_row}
use Rattle.meter.specs.Card.{card_rows}
use Rattle.meter.specs.State.{fresh_of, state_rows, largest_register, largest_volume, largest_count}
use Rattle.meter.specs.Profile.{profile_rows, by_profile, in_quarter_of}
use Rattle.meter.specs.Step.{card_and_state_rows, count_rows, reading_rows, range_rows, limit_rows, sample_rows, step_of}
use Rattle.quantity.specs.Fractions.{floored}
use Rattle.meter.specs.Sample.{sample_heat}
use Rattle.meter.specs.Register.{own_register, added_to}
use Rattle.meter.specs.Sum.{Mark}
use Rattle.meter.specs.Run.{Asking, asks_step, asks_in_quarter, sample_asked, answer_of, last_asked, asked_of}
use Rattle.meter.specs.declared.card.Card.{Card}
use Rattle.meter.specs.declared.register.Register.{Register}
use Rattle.meter.specs.declared.register.Register.TheVariants.{Heat, Cold}
use Rattle.meter.specs.declared.state.Meter.{Meter}
use Rattle.meter.specs.declared.sample.Sample.{Sample}
use Rattle.meter.specs.declared.stepping.Stepped.{Stepped}
use Rattle.meter.proofs.Accepted.{accepted_state, fits_edition, accepted_counts, accepted_flow, accepted_order, kept_none, kept_at_most, accepted_limits}
use Rattle.meter.proofs.Registers.{unchanged, empty, room_in_each}
use Rattle.meter.specs.Answers.{Answers, accepts, refuses_sample, refuses_before}
use Rattle.meter.specs.Theorems.{WithinLimits, StaysWithinLimits, LackedZero, LackedStaysZero, NoOtherRefusal, counts_of, counted_of, Counted}
use Rattle.meter.proofs.Answers.{step_answers}
use Rattle.meter.proofs.Existence.{only_last, by_askings}
use Rattle.meter.proofs.Leaves.{Leaves, adds, counts, keeps, leaves}
use Rattle.meter.proofs.Quarters.{only_73}
use Rattle.meter.proofs.Theorem.{raised, fresh_zeros, edition_along}

pub within_after : (m : Meter) (s : Sample) (a : Stepped) → Leaves m s a → WithinLimits m → WithinLimits a.meter
within_after m s a (adds h) g =
    let limits = accepted_limits m s h.limit in
    let own = own_register m.card s in
    let heat = floored (sample_heat m.card s) in
    let counts = (accepted_state m h.state).counts in
    let most = kept_at_most m.card s (accepted_counts m.card s h.count) in
    record {
      card = g.card;
      registers = λ r. subst (λ (x : ℕ). x ≤ largest_register) (sym (raised r m s)) (room_in_each r own m heat g.registers limits.own);
      volume = limits.volume;
      counts = omega arith;
      edition = g.edition;
      kept = omega (arith, g.kept);
      lacked = record {
        seconds = λ k.
            let None-more = kept_none m.card s (accepted_flow m.edition m.card s h.range k) in
            omega (arith, g.lacked.seconds k);
        cold = λ k.
            let None-more = ap (λ (r : Register). added_to Cold r heat) (accepted_order m.edition m.card s h.range k) in
            omega (arith, g.lacked.cold k, None-more);
      };
    }
within_after m s a (counts n h) g =
    record {
      card = g.card;
      registers = λ r. subst (λ (x : ℕ). x ≤ largest_register) (sym (unchanged r m)) (g.registers r);
      volume = g.volume;
      counts = omega arith;
      edition = g.edition;
      kept = g.kept;
      lacked = record { seconds = g.lacked.seconds; cold = g.lacked.cold };
    }
within_after m s a (keeps n) g = g

within_along : (m : Meter) (qs : List Asking) → WithinLimits m → WithinLimits (last_asked m qs)
within_along m [] g = g
within_along m (q ∷ qs) g = within_along (answer_of m q).meter qs (within_after m (sample_asked q) (answer_of m q) (leaves m q) g)

-- a fresh meter is within its limits
pub fresh_within : (c : Card) (e : ℕ) (m : Meter) → fresh_of c e ≡ Ok m → WithinLimits m
fresh_within c e m h =
    let f = fresh_zeros c e m h in
    subst WithinLimits f.meter
    (record {
      card = f.card;
      registers = λ r. omega (arith, empty r c e);
      volume = omega arith;
      counts = omega arith;
      edition = f.edition;
      kept = omega arith;
      lacked = record { seconds = λ k. refl; cold = λ k. refl };
    })

-- registers, volume and kept seconds never pass their limits from a fresh meter
pub stays_within_limits : StaysWithinLimits
stays_within_limits c e m h = by_askings m (λ (ks : List Mark) (z : Meter). WithinLimits z) (λ qs. within_along m qs (fresh_within c e m h))

-- and what its edition lacks stays zero
pub lacked_stays_zero : LackedStaysZero
lacked_stays_zero c e m h ks z calls =
    let same : z.edition ≡ e = edition_along m ks z calls ∙ sym (ap (λ (x : Meter). x.edition) (fresh_zeros c e m h).meter) in
    subst (λ (x : ℕ). LackedZero x z) same (stays_within_limits c e m h ks z calls).lacked

-- of the rows of card and state only 21 can refuse such a meter
pub by_state : (m : Meter) → WithinLimits m → first_of (state_rows m) ≡ cond (eqb (m.accepted + m.refused) largest_count) (Err CountsFull) (Ok tt)
unfolding state_rows first_of
by_state m g =
    simp (
      le-ltb largest_register m.heat_register (g.registers Heat),
      le-ltb largest_register m.cold_register (g.registers Cold),
      le-ltb largest_volume m.volume g.volume,
      le-ltb largest_count (m.accepted + m.refused) g.counts,
      fits_edition m g.edition g.kept g.lacked,
    )

is_21 : (b : Bool) (r : Refusal) → ◌≡◌ {A = Result Unit Refusal} (cond b (Err CountsFull) (Ok tt)) (Err r) → (r ≡ CountsFull) × (b ≡ true)
is_21 true r e = (cc, refl)
is_21 false r e = absurd cc

-- and then the counts together are at their limit
pub full : (m : Meter) (r : Refusal) → WithinLimits m → first_of (card_and_state_rows m) ≡ Err r → (r ≡ CountsFull) × (eqb (m.accepted + m.refused) largest_count ≡ true)
full m r g e =
    is_21 (eqb (m.accepted + m.refused) largest_count) r
    (sym (by_state m g)
    ∙ sym (ap (λ (o : Result Unit Refusal). result_and o (first_of (state_rows m))) g.card)
    ∙ sym (parts (card_rows m.card) (state_rows m))
    ∙ e)

pub only_21 : (m : Meter) (r : Refusal) → WithinLimits m → first_of (card_and_state_rows m) ≡ Err r → r ≡ CountsFull
only_21 m r g e = (full m r g e).0

-- and the rows of the sample have larger numbers
pub sample_number : (m : Meter) (s : Sample) (r : Refusal) → first_of (sample_rows m s) ≡ Err r → 30 ≤ number_of r
unfolding count_rows reading_rows range_rows limit_rows refusal_at_end number_of
sample_number m s r e = of_some_row (λ (k : Refusal). 30 ≤ number_of k) (sample_rows m s) r (omega arith) e

pub larger : (r : Refusal) → 30 ≤ number_of r → number_of r ≡ 21 → ⊥
larger r h e = omega arith

-- 21 is the number of the full counts
pub number_21 : (r : Refusal) → r ≡ CountsFull → number_of r ≡ 21
unfolding number_of
number_21 r e = rw e refl

-- no row of the step has the number 73
sample_not_73 : (m : Meter) (s : Sample) (r : Refusal) → first_of (sample_rows m s) ≡ Err r → eqb (number_of r) 73 ≡ false
unfolding count_rows reading_rows range_rows limit_rows refusal_at_end number_of
sample_not_73 m s r e = of_some_row (λ (k : Refusal). eqb (number_of k) 73 ≡ false) (sample_rows m s) r (search rules) e

before_not_73 : (m : Meter) (r : Refusal) → first_of (card_and_state_rows m) ≡ Err r → eqb (number_of r) 73 ≡ false
unfolding card_rows state_rows number_of
before_not_73 m r e = of_some_row (λ (k : Refusal). eqb (number_of k) 73 ≡ false) (card_and_state_rows m) r (search rules) e

-- so the step never answers it
not_73 : (m : Meter) (s : Sample) (a : Stepped) → Answers m s a → eqb (refusal_number a.outcome) 73 ≡ false
unfolding refusal_number
not_73 m s a (accepts h) = refl
not_73 m s a (refuses_sample r f g) = sample_not_73 m s r g
not_73 m s a (refuses_before r f) = before_not_73 m r f

pub step_not_73 : (m : Meter) (s : Sample) → eqb (refusal_number (step_of m s).outcome) 73 ≡ false
step_not_73 m s = not_73 m s (step_of m s) (step_answers m s)

-- So after any calls from a fresh meter no row of card and state applies but that of 21.
pub no_other_refusal : NoOtherRefusal
no_other_refusal c e m h ks z calls = by (first_of (card_and_state_rows z)) refl
  where
    by : (o : Result Unit Refusal) → first_of (card_and_state_rows z) ≡ o → (o ≡ Ok tt) ⊎ (o ≡ Err CountsFull)
    by (Ok u) p = inl refl
    by (Err r) p = inr (ap Err (only_21 z r (stays_within_limits c e m h ks z calls) p))

-- the two counts together
abbrev both_counts : Meter → ℕ
both_counts m = m.accepted + m.refused

one_more_lem : (m : Meter) (s : Sample) (a : Stepped) → Answers m s a → WithinLimits m → both_counts a.meter ≡ both_counts m + counts_of a.outcome
unfolding refusal_number
one_more_lem m s a (accepts h) g = omega arith
one_more_lem m s a (refuses_sample n e f) g =
    simp (ne_eqb (number_of n) 21 (larger n (sample_number m s n f)), sample_not_73 m s n f) (omega arith)
one_more_lem m s a (refuses_before n e) g = simp (eq-eqb (number_of n) 21 (number_21 n (only_21 m n g e))) (omega arith)

none_more : (n : ℕ) → n ≡ n + counts_of (Err Profile)
unfolding refusal_number number_of
none_more n = omega arith

by_profile_lem : (m : Meter) (cells : List ℕ) (s : Sample) (index : ℕ) (o : Result Unit Refusal) → first_of (profile_rows cells index) ≡ o → WithinLimits m →
    both_counts (by_profile m cells s index o).stepped.meter ≡ both_counts m + counts_of (by_profile m cells s index o).stepped.outcome
by_profile_lem m cells s index (Ok u) e g = one_more_lem m s (step_of m s) (step_answers m s) g
by_profile_lem m cells s index (Err r) e g =
    subst (λ (q : Refusal). both_counts m ≡ both_counts m + counts_of (Err q)) (sym (only_73 cells index r e)) (none_more (both_counts m))

in_quarter_counted : (m : Meter) (cells : List ℕ) (s : Sample) (index : ℕ) → WithinLimits m →
    both_counts (in_quarter_of m cells s index).stepped.meter ≡ both_counts m + counts_of (in_quarter_of m cells s index).stepped.outcome
unfolding in_quarter_of
in_quarter_counted m cells s index g = by_profile_lem m cells s index (first_of (profile_rows cells index)) refl g

-- so for each kind of call
one_counted : (m : Meter) (q : Asking) → WithinLimits m → both_counts (answer_of m q).meter ≡ both_counts m + counts_of (answer_of m q).outcome
one_counted m (asks_step s) g = one_more_lem m s (step_of m s) (step_answers m s) g
one_counted m (asks_in_quarter cells s index) g = in_quarter_counted m cells s index g

counted_along : (m : Meter) (qs : List Asking) → WithinLimits m → both_counts (last_asked m qs) ≡ both_counts m + counted_of m qs
counted_along m [] g = omega arith
counted_along m (q ∷ qs) g =
    let a = answer_of m q in
    omega (arith, counted_along a.meter qs (within_after m (sample_asked q) a (leaves m q) g), one_counted m q g)

-- accepted plus refused is the number of calls refused neither by 21 nor by 73
pub counted : Counted
counted c e m h ks z calls =
    let f = fresh_zeros c e m h in
    let last = ap both_counts (only_last m ks z calls) in
    omega (arith, last, counted_along m (asked_of calls) (fresh_within c e m h), ap both_counts f.meter)
