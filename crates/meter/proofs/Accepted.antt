-- What is known where no row of card, state or sample refuses, as plain facts about numbers.
-- Assumes nothing.
use mathlib.Core.Path.{◌≡◌, refl, sym, ◌∙◌, ap, subst}
use mathlib.Core.List.{List}
use lib.ListN.{take, drop}
use mathlib.Core.Bool.{Bool, true, false, not, cond, ◌&&◌, ◌||◌}
use Prim.Native.Nat.{ℕ, ◌+◌, ◌*◌, ◌^◌, ◌≤◌, ◌<◌}
use native.Mathlib.Omega.{arith}
use lib.Dec.{ltb, leb, eqb}
use borrow.Author.Tests.{le-ltb, ltb-true, ltb-false, leb-true, leb-false, eqb-false, eqb-true, not-false}
use Rattle.quantity.specs.Refusals.{number_of, first_of, NoneApplies}
use Rattle.quantity.specs.declared.refusal.Row.{Row}
use Rattle.quantity.proofs.Conditions.{neither, both, inside}
use Rattle.quantity.specs.Units.{is_colder, distance_of, whole_degrees}
use Rattle.quantity.specs.declared.units.Temperature.{Temperature}
use Rattle.quantity.specs.declared.range.Role.{Role}
use Rattle.quantity.specs.declared.range.Role.TheVariants.{Supply, Return}
use Rattle.quantity.specs.declared.range.End.TheVariants.{Low, High}
use Rattle.quantity.proofs.Rows.{parts, none_applies, no_refusal, none_of_parts, of_some_row}
use Rattle.platinum.specs.Sensor.{sensor_of, is_unknown}
use Rattle.platinum.specs.Refusal.{end_rows}
use Rattle.std.specs.Prelude.{Result, Ok, Err}
use Rattle.std.specs.Result.{is_err, result_and}
use Rattle.quantity.specs.declared.refusal.Refusal.{Refusal}
use Rattle.water.specs.Pressure.{last_of, pressure_of, ends_below}
use Rattle.water.specs.Table.{table_for}
use Rattle.water.specs.declared.pressure.Pressure.{Pressure}
use Rattle.platinum.specs.declared.reading.Unmeasured.{Unmeasured}
use Rattle.platinum.specs.declared.reading.Unmeasured.TheVariants.{NoSensor, Outside}
use Rattle.meter.specs.Edition.{is_other_edition, keeps_seconds, counts_cold}
use Rattle.meter.specs.Card.{card_rows}
use Rattle.meter.specs.State.{state_rows, largest_register, largest_volume, largest_count, most_seconds, passes_limit, misfits_edition}
use Rattle.meter.specs.Sample.{supply_of, return_of, ts, tr}
use Rattle.meter.specs.Register.{register_of, own_register}
use Rattle.meter.specs.Step.{count_rows, reading_rows, is_above_qs, range_rows, limit_rows, kept_of}
use Rattle.meter.specs.Inside.Stages.{AcceptedCard, AcceptedState, AcceptedCounts, AcceptedLimits}
use Rattle.meter.specs.Theorems.{HasTemperatures, LackedZero}
use Rattle.meter.specs.declared.card.Card.{Card}
use Rattle.meter.specs.declared.register.Register.{Register}
use Rattle.meter.specs.declared.register.Register.TheVariants.{Heat, Cold}
use Rattle.meter.specs.declared.state.Meter.{Meter}
use Rattle.meter.specs.declared.sample.Sample.{Sample}

-- a sensor field that names a kind
sensor_most : (n : ℕ) → is_unknown (sensor_of n) ≡ false → n ≤ 1000
unfolding sensor_of
sensor_most n h = by (eqb n 100) (eqb n 500) (eqb n 1000) refl refl refl h
  where
    by : (a b c : Bool) → eqb n 100 ≡ a → eqb n 500 ≡ b → eqb n 1000 ≡ c → is_unknown (sensor_of n) ≡ false → n ≤ 1000
    by true b c e f g k = let z : n ≡ 100 = eqb-true n 100 e in omega (arith, z)
    by false true c e f g k = let z : n ≡ 500 = eqb-true n 500 f in omega (arith, z)
    by false false true e f g k = let z : n ≡ 1000 = eqb-true n 1000 g in omega (arith, z)
    by false false false e f g k = absurd (let z : true ≡ false = simp (e, f, g) at k in let y : ◌≡◌ {A = ℕ} 0 1 = cc in omega arith)

-- a pressure whose table reaches so many degrees
reaches : (field d : ℕ) → ends_below (pressure_of field) d ≡ false → (is_err (pressure_of field) ≡ false) × (d ≤ (table_for field).last)
reaches field d h = by (pressure_of field) refl h
  where
    by : (r : Result Pressure Refusal) → pressure_of field ≡ r → ends_below r d ≡ false → (is_err (pressure_of field) ≡ false) × (d ≤ (table_for field).last)
    by (Ok p) e h = (rw e refl, rw e (ltb-false _ _ h))
    by (Err r) e h = absurd (let z : ◌≡◌ {A = ℕ} 0 1 = cc in omega arith)

-- at 16 bar no card is refused for its pressure, since row 14 has asked of Θmax before: its numbers then end at 18
module _ (c : Card) (p : c.pressure ≡ 16) (r : Refusal) (e : first_of (card_rows c) ≡ Err r) where
  abbrev others : List Row
  others = take 9 (card_rows c)

  abbrev last : List Row
  last = drop 9 (card_rows c)

  in_two : first_of (card_rows c) ≡ result_and (first_of others) (first_of last)
  unfolding card_rows
  in_two = parts others last

  reached : first_of others ≡ Ok tt → first_of last ≡ Ok tt
  unfolding card_rows pressure_of last_of
  reached h =
      let none = none_applies others h in
      let theta = neither _ _ none.1.1.1.1.0 in
      no_refusal last (rw p theta.1, tt)

  pub number_at_16 : number_of r ≤ 18
  unfolding card_rows number_of
  number_at_16 = by (first_of others) refl
    where
      by : (o : Result Unit Refusal) → first_of others ≡ o → number_of r ≤ 18
      by (Err q) h =
          let same : ◌≡◌ {A = Result Unit Refusal} (Err q) (Err r) = sym (in_two ∙ ap (λ (x : Result Unit Refusal). result_and x (first_of last)) h) ∙ e in
          of_some_row (λ (k : Refusal). number_of k ≤ 18) others r (omega arith) (h ∙ same)
      by (Ok u) h =
          let impossible : ◌≡◌ {A = Result Unit Refusal} (Ok tt) (Err r) = sym (in_two ∙ ap (λ (x : Result Unit Refusal). result_and x (first_of last)) h ∙ reached h) ∙ e in
          absurd cc

pub accepted_card : (c : Card) → NoneApplies (card_rows c) → AcceptedCard c
unfolding card_rows
accepted_card c h =
    let h11 = h.1 in
    let h13 = h11.1.1 in
    let h14 = h13.1 in
    let h15 = h14.1 in
    let h16 = h15.1 in
    let h17 = h16.1 in
    let theta = neither _ _ h14.0 in
    let delta = neither _ _ h16.0 in
    let flow = both (leb 1 c.qi && leb c.qi c.qp && leb c.qp c.qs) (leb c.qs (10 ^ 9)) (not-false _ h17.0) in
    let middle = both (leb 1 c.qi && leb c.qi c.qp) (leb c.qp c.qs) flow.0 in
    let lower = both (leb 1 c.qi) (leb c.qi c.qp) middle.0 in
    record {
      serial = (inside _ _ _ h.0).1;
      sensor = sensor_most c.sensor h11.1.0;
      place = h11.0;
      ml = inside _ _ _ h13.0;
      theta = (leb-false _ _ theta.0, ltb-false _ _ theta.1);
      delta_min = inside _ _ _ h15.0;
      delta_max = (ltb-false _ _ delta.0, ltb-false _ _ delta.1);
      flow = leb-true _ _ flow.1;
      flows = (leb-true _ _ lower.1, leb-true _ _ middle.1);
      power = inside _ _ _ h17.1.0;
      pressure = reaches c.pressure c.theta_max h17.1.1.0;
    }

-- a condition on editions that lack something: what it says, where it is false, and when it is
not_both : (has b : Bool) → (not has && b) ≡ false → has ≡ false → b ≡ false
not_both has b h e = subst (λ (k : Bool). (not k && b) ≡ false) e h

pub not_both_if : (has b : Bool) → (has ≡ false → b ≡ false) → (not has && b) ≡ false
not_both_if true b h = refl
not_both_if false b h = h refl

-- a field that an edition lacks is zero
lacked_zero : (has : Bool) (n : ℕ) → (not has && ltb 0 n) ≡ false → has ≡ false → n ≡ 0
lacked_zero has n h k = omega (arith, ltb-false 0 n (not_both has (ltb 0 n) h k))

zero_passes : (has : Bool) (n : ℕ) → (has ≡ false → n ≡ 0) → (not has && ltb 0 n) ≡ false
zero_passes has n h = not_both_if has (ltb 0 n) (λ k. le-ltb 0 n (omega (arith, h k)))

-- each of the two registers
each : (P : ℕ → Type 0) (m : Meter) → P m.heat_register → P m.cold_register → (r : Register) → P (register_of r m)
each P m h g Heat = h
each P m h g Cold = g

strictly : (a b : ℕ) → a ≤ b → (a ≡ b → ⊥) → a < b
strictly a b h n = omega arith

pub accepted_state : (m : Meter) → NoneApplies (state_rows m) → AcceptedState m
unfolding state_rows
accepted_state m h =
    let h20 = neither (passes_limit m) (misfits_edition m) h.0 in
    let other = is_other_edition m.edition in
    let keeps = keeps_seconds m.edition in
    let cold = counts_cold m.edition in
    let n = m.kept_seconds in
    let k = m.cold_register in
    let fits = neither (other || ltb (most_seconds * m.accepted) n || (not keeps && ltb 0 n)) (not cold && ltb 0 k) h20.1 in
    let seconds = neither (other || ltb (most_seconds * m.accepted) n) (not keeps && ltb 0 n) fits.0 in
    let known = neither other (ltb (most_seconds * m.accepted) n) seconds.0 in
    let limits = neither (ltb largest_register m.heat_register || ltb largest_register k || ltb largest_volume m.volume) (ltb largest_count (m.accepted + m.refused)) h20.0 in
    let amounts = neither (ltb largest_register m.heat_register || ltb largest_register k) (ltb largest_volume m.volume) limits.0 in
    let two = neither (ltb largest_register m.heat_register) (ltb largest_register k) amounts.0 in
    record {
      registers = each (λ (x : ℕ). x ≤ largest_register) m (ltb-false _ _ two.0) (ltb-false _ _ two.1);
      volume = ltb-false _ _ amounts.1;
      counts = strictly _ _ (ltb-false _ _ limits.1) (eqb-false _ _ h.1.0);
      edition = known.0;
      kept = ltb-false _ _ known.1;
      lacked = record { seconds = lacked_zero keeps n seconds.1; cold = lacked_zero cold k fits.1 };
    }

-- and edition, kept seconds and cold register like these are not refused
pub fits_edition : (m : Meter) → is_other_edition m.edition ≡ false → m.kept_seconds ≤ most_seconds * m.accepted → LackedZero m.edition m →
    misfits_edition m ≡ false
fits_edition m known most lacked =
    let n = m.kept_seconds in
    simp (
      known,
      le-ltb (most_seconds * m.accepted) n most,
      zero_passes (keeps_seconds m.edition) n lacked.seconds,
      zero_passes (counts_cold m.edition) m.cold_register lacked.cold,
    )

pub accepted_counts : (c : Card) (s : Sample) → NoneApplies (count_rows c s) → AcceptedCounts c s
unfolding count_rows
accepted_counts c s h =
    let p = neither _ _ h.1.0 in
    record { seconds = inside _ _ _ h.0; pulses = ltb-false _ _ p.0; volume = ltb-false _ _ p.1 }

-- both temperatures of a sample within its ranges are those of its card's table
pub record InTable (c : Card) (s : Sample) : Type 0 where
  pub of_supply : (ts c s).0 ≤ 100 * (table_for c.pressure).last
  pub of_return : (tr c s).0 ≤ 100 * (table_for c.pressure).last

pub in_table : (e : ℕ) (c : Card) (s : Sample) → AcceptedCard c → NoneApplies (range_rows e c s) → InTable c s
unfolding range_rows
in_table e c s k h = record { of_supply = below (ts c s) (neither _ _ h.0).1; of_return = below (tr c s) (neither _ _ h.1.0).1 }
  where
    below : (t : Temperature) → is_colder (whole_degrees c.theta_max) t ≡ false → t.0 ≤ 100 * (table_for c.pressure).last
    below t l = omega (arith, ltb-false (c.theta_max * 100) t.0 l, k.pressure.1)

-- two temperatures that lie so much apart, whichever is the warmer
pub record Apart (a b : Temperature) (n : ℕ) : Type 0 where
  pub colder : is_colder a b ≡ true → a.0 + n ≤ b.0
  pub not_colder : is_colder a b ≡ false → b.0 + n ≤ a.0

apart : (a b : Temperature) (n : ℕ) → n ≤ (distance_of a b).0 → Apart a b n
unfolding distance_of
apart a b n l = record { colder = λ e. omega (arith, ltb-true a.0 b.0 e); not_colder = λ e. omega (arith, ltb-false a.0 b.0 e) }

pub accepted_pair : (e : ℕ) (c : Card) (s : Sample) → NoneApplies (range_rows e c s) → Apart (ts c s) (tr c s) (c.delta_min * 100)
unfolding range_rows
accepted_pair e c s h = apart _ _ _ (ltb-false _ _ h.1.1.1.0)

-- an edition that keeps no seconds accepts no sample whose flow is above qs
pub accepted_flow : (e : ℕ) (c : Card) (s : Sample) → NoneApplies (range_rows e c s) → keeps_seconds e ≡ false → is_above_qs c s ≡ false
unfolding range_rows
accepted_flow e c s h k = not_both (keeps_seconds e) (is_above_qs c s) h.1.1.1.1.1.0 k

-- and one that counts no cold accepts only samples that are the heat register's own
pub accepted_order : (e : ℕ) (c : Card) (s : Sample) → NoneApplies (range_rows e c s) → counts_cold e ≡ false → own_register c s ≡ Heat
unfolding range_rows
accepted_order e c s h k = rw (not_both (counts_cold e) (is_colder (ts c s) (tr c s)) h.1.1.0 k) refl

-- a meter keeps no seconds of a sample whose flow is not above qs
pub kept_none : (c : Card) (s : Sample) → is_above_qs c s ≡ false → kept_of c s ≡ 0
unfolding kept_of
kept_none c s e = rw e refl

-- and at most a sample's most seconds of any
pub kept_at_most : (c : Card) (s : Sample) → AcceptedCounts c s → kept_of c s ≤ most_seconds
unfolding kept_of
kept_at_most c s h = by (is_above_qs c s)
  where
    by : (b : Bool) → cond b s.seconds 0 ≤ most_seconds
    by true = h.seconds.1
    by false = omega arith

pub accepted_limits : (m : Meter) (s : Sample) → NoneApplies (limit_rows m s) → AcceptedLimits m s
unfolding limit_rows
accepted_limits m s h =
    let room = neither _ _ h.1.0 in
    record { own = ltb-false _ _ room.0; volume = ltb-false _ _ room.1 }

-- both readings have a temperature: the default of a missing one is never that of an accepted sample
has_temperature : (p : Role) (x : Result Temperature Unmeasured) → NoneApplies (end_rows p x) → (t : Temperature) × (x ≡ Ok t)
has_temperature p (Ok t) h = (t, refl)
has_temperature p (Err (Outside Low)) h = let z : ◌≡◌ {A = ℕ} 0 1 = cc h.0 in absurd (omega arith)
has_temperature p (Err (Outside High)) h = let z : ◌≡◌ {A = ℕ} 0 1 = cc h.1.0 in absurd (omega arith)
has_temperature p (Err NoSensor) h = let z : ◌≡◌ {A = ℕ} 0 1 = cc h.0 in absurd (omega arith)

pub accepted_readings : (c : Card) (s : Sample) → NoneApplies (reading_rows c s) → HasTemperatures c s
unfolding reading_rows
accepted_readings c s h =
    let p = none_of_parts (end_rows Supply (supply_of c s)) (end_rows Return (return_of c s)) h in
    record { of_supply = has_temperature Supply _ p.0; of_return = has_temperature Return _ p.1 }
