-- Where two editions answer alike: a sample that is the heat register's own, in editions 2 and 3; and, but for the numbers of the refusals, a run in
-- which both accept and refuse the same samples.
-- Assumes nothing.
use mathlib.Core.Path.{◌≡◌, refl, sym, ◌∙◌, ap, ap₂, subst}
use mathlib.Core.List.{List, [], ◌∷◌, ◌++◌, append_assoc}
use mathlib.Core.Bool.{false}
use Prim.Native.Nat.{ℕ, ◌+◌, ◌≤◌}
use native.Mathlib.Nat.{add-zero}
use borrow.Author.Tests.{le-ltb}
use Rattle.quantity.specs.Units.{is_colder}
use Rattle.quantity.specs.Refusals.{outside, first_of}
use Rattle.std.specs.Prelude.{Result, Ok, Err}
use Rattle.quantity.specs.declared.refusal.Refusal.{Refusal}
use Rattle.quantity.specs.declared.refusal.Row.{Row}
use Rattle.quantity.proofs.Rows.{parts}
use Rattle.std.specs.Result.{result_and}
use Rattle.meter.specs.Card.{card_rows}
use Rattle.meter.specs.State.{fresh_of, largest_register, state_rows}
use Rattle.meter.specs.Sample.{ts, tr}
use Rattle.meter.specs.Register.{register_of, own_register}
use Rattle.meter.specs.Step.{count_rows, reading_rows, range_rows, limit_rows, sample_rows, added_by, accepting, refusing, by_sample, by_card_and_state, card_and_state_rows, step_of}
use Rattle.meter.specs.Sum.{Mark}
use Rattle.meter.specs.Calls.{mark_of, is_accepted}
use Rattle.meter.specs.Run.{marks_of, last_of}
use Rattle.meter.specs.Theorems.{WithinLimits, under_edition, changed, HeatAsInEdition2, with_edition}
use Rattle.meter.specs.declared.card.Card.{Card}
use Rattle.meter.specs.declared.register.Register.TheVariants.{Cold}
use Rattle.meter.specs.declared.state.Meter.{Meter}
use Rattle.meter.specs.declared.sample.Sample.{Sample}
use Rattle.meter.proofs.Leaves.{step_leaves}
use Rattle.meter.proofs.Theorem.{fresh_zeros}
use Rattle.meter.proofs.Along.{within_after, fresh_within, by_state}

-- a change of a meter that leaves what the rows of card and state lead to, and may be made before or after a sample is accepted or refused
record Alike (f : Meter → Meter) (m : Meter) (s : Sample) : Type 0 where
  before : first_of (card_and_state_rows (f m)) ≡ first_of (card_and_state_rows m)
  when_accepted : accepting (f m) s ≡ f (accepting m s)
  when_refused : refusing (f m) ≡ f (refusing m)

module _ (f : Meter → Meter) (m : Meter) (s : Sample) (h : Alike f m s) where
  -- the step leads to the same meter but for the change where it accepts both or refuses both, by whatever rows
  same_meter : is_accepted (step_of m s).outcome ≡ is_accepted (step_of (f m) s).outcome → (step_of (f m) s).meter ≡ f (step_of m s).meter
  unfolding step_of
  same_meter w =
      ap (λ (o : Result Unit Refusal). (by_card_and_state (f m) s o).meter) h.before
      ∙ by (first_of (card_and_state_rows m)) (w ∙ ap (λ (o : Result Unit Refusal). is_accepted (by_card_and_state (f m) s o).outcome) h.before)
    where
      by_sample_lem : (o p : Result Unit Refusal) → is_accepted (by_sample m s o).outcome ≡ is_accepted (by_sample (f m) s p).outcome →
          (by_sample (f m) s p).meter ≡ f (by_sample m s o).meter
      by_sample_lem (Ok u) (Ok v) e = h.when_accepted
      by_sample_lem (Ok u) (Err n) e = absurd cc
      by_sample_lem (Err n) (Ok u) e = absurd cc
      by_sample_lem (Err n) (Err k) e = h.when_refused

      by : (o : Result Unit Refusal) → is_accepted (by_card_and_state m s o).outcome ≡ is_accepted (by_card_and_state (f m) s o).outcome →
          (by_card_and_state (f m) s o).meter ≡ f (by_card_and_state m s o).meter
      by (Ok u) e = by_sample_lem (first_of (sample_rows m s)) (first_of (sample_rows (f m) s)) e
      by (Err n) e = refl

  -- and it answers alike where the sample's rows lead to the same
  same_step : first_of (sample_rows (f m) s) ≡ first_of (sample_rows m s) → step_of (f m) s ≡ changed f (step_of m s)
  unfolding step_of
  same_step w = ap (by_card_and_state (f m) s) h.before ∙ by (first_of (card_and_state_rows m))
    where
      by_sample_lem : (o : Result Unit Refusal) → by_sample (f m) s o ≡ changed f (by_sample m s o)
      by_sample_lem (Ok u) = ap (λ (x : Meter). record { meter = x; outcome = Ok tt }) h.when_accepted
      by_sample_lem (Err n) = ap (λ (x : Meter). record { meter = x; outcome = Err n }) h.when_refused

      by : (o : Result Unit Refusal) → by_card_and_state (f m) s o ≡ changed f (by_card_and_state m s o)
      by (Ok u) = ap (by_sample (f m) s) w ∙ by_sample_lem (first_of (sample_rows m s))
      by (Err n) = refl

-- the rows of card and state lead to the same where those of the state do
same_before : (c : Card) (rs ss : List Row) → first_of rs ≡ first_of ss → first_of (card_rows c ++ rs) ≡ first_of (card_rows c ++ ss)
same_before c rs ss e = parts (card_rows c) rs ∙ ap (result_and (first_of (card_rows c))) e ∙ sym (parts (card_rows c) ss)

-- rows in parts of which the last is the fourth
last_part : (ps qs rs ss : List Row) → first_of (ps ++ (qs ++ (rs ++ ss))) ≡ result_and (first_of (ps ++ (qs ++ rs))) (first_of ss)
last_part ps qs rs ss =
    ap (λ (l : List Row). first_of (ps ++ l)) (sym (append_assoc qs rs ss)) ∙ ap first_of (sym (append_assoc ps (qs ++ rs) ss)) ∙ parts (ps ++ (qs ++ rs)) ss

-- the rows of a sample that are tried before those of its limits, in an edition
abbrev before_limits : ℕ → Card → Sample → List Row
before_limits e c s = count_rows c s ++ (reading_rows c s ++ range_rows e c s)

-- where these lead to the same in two editions, and the limits' rows are the same, so do all rows of the sample
same_sample : (e f : ℕ) (c : Card) (s : Sample) (ls ks : List Row) → first_of (before_limits e c s) ≡ first_of (before_limits f c s) → ls ≡ ks →
    first_of (count_rows c s ++ (reading_rows c s ++ (range_rows f c s ++ ls))) ≡ first_of (count_rows c s ++ (reading_rows c s ++ (range_rows e c s ++ ks)))
same_sample e f c s ls ks w l =
    last_part (count_rows c s) (reading_rows c s) (range_rows f c s) ls
    ∙ ap₂ result_and (sym w) (ap first_of l)
    ∙ sym (last_part (count_rows c s) (reading_rows c s) (range_rows e c s) ks)

-- the rows of the limits, where the sample's own register has the same in it
same_limit : (e cold : ℕ) (m : Meter) (s : Sample) →
    let own = own_register m.card s in
    register_of own (under_edition e cold m) ≡ register_of own m → limit_rows (under_edition e cold m) s ≡ limit_rows m s
unfolding limit_rows
same_limit e cold m s h = simp h

-- a meter of edition 3 whose cold register keeps its limit is refused by its state exactly as that of edition 2 without cold
same_state : (m : Meter) (cold : ℕ) → cold ≤ largest_register → state_rows (under_edition 3 cold m) ≡ state_rows (under_edition 2 0 m)
unfolding state_rows outside
same_state m cold most = simp (le-ltb largest_register cold most)

-- neither edition refuses a sample by 36 whose supply is not below its return, nor by 39
heat_alike : (c : Card) (s : Sample) → is_colder (ts c s) (tr c s) ≡ false →
    first_of (before_limits 2 c s) ≡ first_of (before_limits 3 c s)
unfolding range_rows
heat_alike c s e = rw e refl

pub heat_as_in_edition_2 : HeatAsInEdition2
heat_as_in_edition_2 m cold s most e =
    let c = m.card in
    let n = under_edition 2 0 m in
    let nothing_more : cold + added_by Cold c s ≡ cold = rw e (add-zero cold) in
    same_step (under_edition 3 cold) n s
    (record {
      before = same_before c _ _ (ap first_of (same_state m cold most));
      when_accepted = ap (λ (k : ℕ). under_edition 3 k (accepting n s)) nothing_more;
      when_refused = refl;
    })
    (same_sample 2 3 c s _ _ (heat_alike c s e) (same_limit 3 cold n s (rw e refl)))

-- two meters that are alike but for the edition stay so where both are within their limits: of the rows of card and state only 21 can refuse them, by
-- counts that are the same
abbrev BothWithin : ℕ → Meter → Type 0
BothWithin f m = WithinLimits m × WithinLimits (with_edition f m)

within_alike : (f : ℕ) (m : Meter) (s : Sample) → BothWithin f m → Alike (with_edition f) m s
within_alike f m s g = record {
  before = same_before m.card _ _ (by_state (with_edition f m) g.1 ∙ sym (by_state m g.0));
  when_accepted = refl;
  when_refused = refl;
}

-- and they stay within them where the step leads to the same meter but for the edition
still_within : (f : ℕ) (m : Meter) (s : Sample) → BothWithin f m → (step_of (with_edition f m) s).meter ≡ with_edition f (step_of m s).meter →
    BothWithin f (step_of m s).meter
still_within f m s g same =
    let after : (x : Meter) → WithinLimits x → WithinLimits (step_of x s).meter = λ x. within_after x s (step_of x s) (step_leaves x s) in
    (after m g.0, subst WithinLimits same (after (with_edition f m) g.1))

-- the marks tell which samples are accepted, and where these are the same each step leads to the same meter but for the edition
same_last : (f : ℕ) (ss : List Sample) (m : Meter) → BothWithin f m → marks_of m ss ≡ marks_of (with_edition f m) ss →
    with_edition f (last_of m ss) ≡ last_of (with_edition f m) ss
same_last f [] m g h = refl
same_last f (s ∷ ss) m g h =
    let first : mark_of s (step_of m s) ≡ mark_of s (step_of (with_edition f m) s) = cc h in
    let one = same_meter (with_edition f) m s (within_alike f m s g) (ap (λ (k : Mark). k.accepted) first) in
    let others : marks_of (step_of m s).meter ss ≡ marks_of (step_of (with_edition f m) s).meter ss = cc h in
    same_last f ss (step_of m s).meter (still_within f m s g one) (others ∙ ap (λ (x : Meter). marks_of x ss) one)
    ∙ ap (λ (x : Meter). last_of x ss) (sym one)

-- so where the runs of two editions from the fresh meters of a card accept and refuse the same samples, they end alike but for the edition
pub same_marks_agree : (c : Card) (e f : ℕ) (m n : Meter) → fresh_of c e ≡ Ok m → fresh_of c f ≡ Ok n → (ss : List Sample) →
    marks_of m ss ≡ marks_of n ss → with_edition f (last_of m ss) ≡ last_of n ss
same_marks_agree c e f m n made made-too ss h =
    let same : with_edition f m ≡ n = ap (with_edition f) (sym (fresh_zeros c e m made).meter) ∙ (fresh_zeros c f n made-too).meter in
    let within : BothWithin f m = (fresh_within c e m made, subst WithinLimits (sym same) (fresh_within c f n made-too)) in
    same_last f ss m within (h ∙ ap (λ (x : Meter). marks_of x ss) (sym same)) ∙ ap (λ (x : Meter). last_of x ss) same
