-- The theorems about the meter. Each is a definition. The clause of a contract that promises it has the same name in small letters, or the whole
-- function has that name, if it promises nothing else; and so has the lemma in proofs/ that proves it. First stands what is true of one answer,
-- which its function promises, then what is true of whole lists of calls, which src/laws.rt promises. Below, a meter after any calls is one that a
-- list of calls (specs/Calls.antt) leads to from the fresh meter of an allowed card and an edition, whatever was accepted or refused on the way.
use Rattle.std.specs.Prelude.{◌≡◌, List, [], ◌∷◌, map, true, false, cond, ◌||◌, ◌↔◌, ◌⊎◌, ℕ, ◌+◌, ◌*◌, ◌≤◌, eqb, Result, Ok, Err}
use Rattle.std.specs.List.{sum}
use Rattle.quantity.specs.Fractions.{floored}
use Rattle.quantity.specs.Units.{is_colder}
use Rattle.quantity.specs.Refusals.{refusal_number, first_of, NoneApplies}
use Rattle.quantity.specs.declared.units.Temperature.{Temperature}
use Rattle.quantity.specs.declared.refusal.Refusal.{Refusal}
use Rattle.quantity.specs.declared.refusal.Refusal.TheVariants.{CountsFull}
use Rattle.meter.specs.Edition.{is_other_edition, keeps_seconds, counts_cold}
use Rattle.meter.specs.Card.{card_rows}
use Rattle.meter.specs.State.{fresh_of, zeros, largest_register, largest_volume, largest_count, most_seconds}
use Rattle.meter.specs.Sample.{volume_of, supply_of, return_of, ts, tr, sample_heat}
use Rattle.meter.specs.Register.{register_of, own_register}
use Rattle.meter.specs.Step.{card_and_state_rows, kept_of, step_of}
use Rattle.meter.specs.Profile.{quarters, zero_cells, profile_rows, cell_at, in_quarter_of}
use Rattle.meter.specs.Day.{InQuarter, DayCalls, day_of, day_asked}
use Rattle.meter.specs.Sum.{Mark, is_own, nothing, sum_of, allowance_of, WithinBounds}
use Rattle.meter.specs.Calls.{Calls, is_accepted}
use Rattle.meter.specs.Run.{Asking, sample_asked, answer_of, marks_asked, last_asked, asked_of}
use Rattle.meter.specs.Answers.{NoRowRefuses}
use Rattle.meter.specs.declared.card.Card.{Card}
use Rattle.meter.specs.declared.state.Meter.{Meter}
use Rattle.meter.specs.declared.profile.Profiled.{Profiled}
use Rattle.meter.specs.declared.register.Register.{Register}
use Rattle.meter.specs.declared.register.Register.TheVariants.{Heat, Cold}
use Rattle.meter.specs.declared.sample.Sample.{Sample}
use Rattle.meter.specs.declared.stepping.Stepped.{Stepped}

-- ---- one answer

-- A meter is the fresh one of a card and an edition: the card is allowed, the edition is 1, 2 or 3, and all totals are 0.
pub record IsFresh (c : Card) (e : ℕ) (m : Meter) : Type 0 where
  pub card : first_of (card_rows c) ≡ Ok tt
  pub edition : is_other_edition e ≡ false
  pub meter : zeros c e ≡ m

-- `fresh` makes a meter exactly where the card is allowed and the edition is 1, 2 or 3; and it is the one with zeros.
abbrev pub FreshExactly : Card → ℕ → Result Meter Refusal → Type 0
FreshExactly c e answer = (m : Meter) → (answer ≡ Ok m) ↔ IsFresh c e m

-- The step accepts a sample exactly where no row refuses it.
abbrev pub AcceptedExactly : Meter → Sample → Stepped → Type 0
AcceptedExactly m s answer = (is_accepted answer.outcome ≡ true) ↔ NoRowRefuses m s

-- Both readings of a sample have a temperature.
pub record HasTemperatures (c : Card) (s : Sample) : Type 0 where
  pub of_supply : (t : Temperature) × (supply_of c s ≡ Ok t)
  pub of_return : (t : Temperature) × (return_of c s ≡ Ok t)

-- Both readings of an accepted sample have a temperature. So the 0 °C that stand in for a missing one (specs/Sample.antt) never enter a register or
-- a sum.
abbrev pub AcceptedHasTemperatures : Card → Sample → Stepped → Type 0
AcceptedHasTemperatures c s answer = is_accepted answer.outcome ≡ true → HasTemperatures c s

-- A sample that comes with an index is accepted exactly where 73 does not apply and no row of the step refuses it.
abbrev pub InQuarterExactly : Meter → List ℕ → Sample → ℕ → Profiled → Type 0
InQuarterExactly m cells s i answer = (is_accepted answer.stepped.outcome ≡ true) ↔ (NoneApplies (profile_rows cells i) × NoRowRefuses m s)

-- A call with an index leaves every other cell as it was, whether it accepts its sample or refuses it.
abbrev pub OtherCellsStay : List ℕ → ℕ → Profiled → Type 0
OtherCellsStay cells i answer = (k : ℕ) → (k ≡ i → ⊥) → cell_at answer.cells k ≡ cell_at cells k

-- An accepted heat sample raises the cell of its index and the heat register by the same mJ, its heat rounded down.
abbrev pub CellAsRegister : Meter → List ℕ → Sample → ℕ → Profiled → Type 0
CellAsRegister m cells s i answer =
    let heat = floored (sample_heat m.card s) in
    is_accepted answer.stepped.outcome ≡ true → own_register m.card s ≡ Heat →
    (cell_at answer.cells i ≡ cell_at cells i + heat) × (answer.stepped.meter.heat_register ≡ m.heat_register + heat)

-- ---- lists of calls from a fresh meter

-- The register theorem. For every card that is allowed, every edition, every list of calls from the fresh meter of the two, and each of the two
-- registers: what the register holds at the end is not above its exact sum; it is not below the sum by more than 1 mJ for each of its own samples
-- that has a volume; and it is not below the sum by more than a two-thousandth of the sum. A call is one of `step`, or one of `step_in_quarter`
-- with any cells and any index; refused calls belong to the list, and a list without a call is one too.
abbrev pub RegisterBounds : Type 0
RegisterBounds =
    (c : Card) (e : ℕ) (m : Meter) → fresh_of c e ≡ Ok m → (ks : List Mark) (z : Meter) → Calls m ks z → (r : Register) →
    WithinBounds (register_of r z) (allowance_of r c ks) (sum_of r c ks)

-- No accepted sample is left out, and none counts twice: each is one register's own, the one that its temperatures tell, and not the other's. A
-- refused sample is no register's own.
abbrev pub OwnExactly : Type 0
OwnExactly = (r : Register) (c : Card) (k : Mark) → (is_own r c k ≡ true) ↔ ((k.accepted ≡ true) × (r ≡ own_register c k.sample))

-- Everything that a caller can ask is among the calls of the register theorem: for every list of askings (specs/Run.antt), from every meter, there
-- are calls in which just this is asked.
abbrev pub CallsExist : Type 0
CallsExist = (m : Meter) (askings : List Asking) → (calls : Calls m (marks_asked m askings) (last_asked m askings)) × (asked_of calls ≡ askings)

-- The marks of these calls are of the samples that were asked, in their order: none is left out, exchanged or made up.
abbrev pub Given : Type 0
Given = (m : Meter) (askings : List Asking) → map (λ (k : Mark). k.sample) (marks_asked m askings) ≡ map sample_asked askings

-- And nothing else is among them: any calls leave just the marks that follow from what was asked in them,
abbrev pub OnlyMarks : Type 0
OnlyMarks = (m : Meter) (ks : List Mark) (z : Meter) (calls : Calls m ks z) → ks ≡ marks_asked m (asked_of calls)

-- and lead to just the meter that follows from it.
abbrev pub OnlyLast : Type 0
OnlyLast = (m : Meter) (ks : List Mark) (z : Meter) (calls : Calls m ks z) → z ≡ last_asked m (asked_of calls)

-- Every accepted sample of a list is this register's own.
abbrev pub AllOwn : Register → Card → List Mark → Type 0
AllOwn r c [] = Unit {0}
AllOwn r c (k ∷ ks) = (k.accepted ≡ true → is_own r c k ≡ true) × AllOwn r c ks

-- The heat register alone counts: every accepted sample is its own, and the cold register's exact sum and allowance are 0.
pub record HeatAlone (c : Card) (ks : List Mark) : Type 0 where
  pub own : AllOwn Heat c ks
  pub cold_sum : sum_of Cold c ks ≡ nothing
  pub cold_allowance : allowance_of Cold c ks ≡ 0

-- In an edition that counts no cold, which is 1 or 2, the heat register alone counts, whatever the calls: its exact sum leaves no accepted sample
-- out.
abbrev pub HeatOnly : Type 0
HeatOnly =
    (c : Card) (e : ℕ) (m : Meter) → fresh_of c e ≡ Ok m → counts_cold e ≡ false → (ks : List Mark) (z : Meter) → Calls m ks z → HeatAlone c ks

-- What the accepted samples of a list add up to, where f tells what a sample gives.
abbrev pub total_of : (Sample → ℕ) → List Mark → ℕ
total_of f [] = 0
total_of f (k ∷ ks) = cond k.accepted (f k.sample) 0 + total_of f ks

-- The seconds of the accepted samples of a list whose flow was above qs.
abbrev pub kept_in : Card → List Mark → ℕ
kept_in c ks = total_of (kept_of c) ks

-- After any calls the accepted count is how many samples were accepted.
abbrev pub AcceptedCount : Type 0
AcceptedCount =
    (c : Card) (e : ℕ) (m : Meter) → fresh_of c e ≡ Ok m → (ks : List Mark) (z : Meter) → Calls m ks z → z.accepted ≡ total_of (λ s. 1) ks

-- After any calls the volume is the sum of the volumes of the accepted samples.
abbrev pub VolumeTogether : Type 0
VolumeTogether =
    (c : Card) (e : ℕ) (m : Meter) → fresh_of c e ≡ Ok m → (ks : List Mark) (z : Meter) → Calls m ks z → z.volume ≡ total_of (volume_of c) ks

-- After any calls the kept seconds are the sum of the seconds of those accepted samples whose flow was above qs.
abbrev pub KeptSeconds : Type 0
KeptSeconds =
    (c : Card) (e : ℕ) (m : Meter) → fresh_of c e ≡ Ok m → (ks : List Mark) (z : Meter) → Calls m ks z → z.kept_seconds ≡ kept_in c ks

-- The totals that an edition lacks are 0: the kept seconds in edition 1, the cold register in editions 1 and 2.
pub record LackedZero (e : ℕ) (m : Meter) : Type 0 where
  pub seconds : keeps_seconds e ≡ false → m.kept_seconds ≡ 0
  pub cold : counts_cold e ≡ false → m.cold_register ≡ 0

-- A meter that none of 10 to 18, 77 and 20 refuses, limit by limit: its card is allowed, its totals are within their limits, and they fit its
-- edition. The counts may have reached their limit, which 21 refuses.
pub record WithinLimits (m : Meter) : Type 0 where
  pub card : first_of (card_rows m.card) ≡ Ok tt
  pub registers : (r : Register) → register_of r m ≤ largest_register
  pub volume : m.volume ≤ largest_volume
  pub counts : m.accepted + m.refused ≤ largest_count
  pub edition : is_other_edition m.edition ≡ false
  pub kept : m.kept_seconds ≤ most_seconds * m.accepted
  pub lacked : LackedZero m.edition m

-- After any calls the meter's card is allowed, its totals are within their limits, and they fit its edition.
abbrev pub StaysWithinLimits : Type 0
StaysWithinLimits =
    (c : Card) (e : ℕ) (m : Meter) → fresh_of c e ≡ Ok m → (ks : List Mark) (z : Meter) → Calls m ks z → WithinLimits z

-- After any calls the totals that the edition lacks are 0.
abbrev pub LackedStaysZero : Type 0
LackedStaysZero =
    (c : Card) (e : ℕ) (m : Meter) → fresh_of c e ≡ Ok m → (ks : List Mark) (z : Meter) → Calls m ks z → LackedZero e z

-- So a meter after calls is refused for its card or its state with 21 alone: of their rows, which come before a sample's own, either none applies or
-- the first that does is that of the full counts.
abbrev pub NoOtherRefusal : Type 0
NoOtherRefusal =
    (c : Card) (e : ℕ) (m : Meter) → fresh_of c e ≡ Ok m → (ks : List Mark) (z : Meter) → Calls m ks z →
    (first_of (card_and_state_rows z) ≡ Ok tt) ⊎ (first_of (card_and_state_rows z) ≡ Err CountsFull)

-- What a call with this outcome adds to the two counts together: nothing where 21 or 73 refused it, and otherwise 1.
abbrev pub counts_of : Result Unit Refusal → ℕ
counts_of outcome = cond (eqb (refusal_number outcome) 21 || eqb (refusal_number outcome) 73) 0 1

-- How many calls of a list of askings, from a meter on, are refused neither with 21 nor with 73.
abbrev pub counted_of : Meter → List Asking → ℕ
counted_of m [] = 0
counted_of m (asking ∷ askings) = counts_of (answer_of m asking).outcome + counted_of (answer_of m asking).meter askings

-- After any calls the accepted and the refused count are together the number of the calls, but for those that were refused with 21 or 73.
abbrev pub Counted : Type 0
Counted =
    (c : Card) (e : ℕ) (m : Meter) → fresh_of c e ≡ Ok m → (ks : List Mark) (z : Meter) (calls : Calls m ks z) →
    z.accepted + z.refused ≡ counted_of m (asked_of calls)

-- ---- two editions

-- A meter with another edition's number and with so many mJ of cold. Its other fields stay.
abbrev pub under_edition : ℕ → ℕ → Meter → Meter
under_edition e cold m = record {
  card = m.card;
  edition = e;
  heat_register = m.heat_register;
  volume = m.volume;
  accepted = m.accepted;
  refused = m.refused;
  kept_seconds = m.kept_seconds;
  cold_register = cold;
}

-- A meter with another edition's number. All its other fields stay, the cold register too.
abbrev pub with_edition : ℕ → Meter → Meter
with_edition e m = under_edition e m.cold_register m

-- An answer whose meter is changed by f.
abbrev pub changed : (Meter → Meter) → Stepped → Stepped
changed f a = record { meter = f a.meter; outcome = a.outcome }

-- Edition 3 treats heat as edition 2 does. Take a sample whose supply is not colder than its return, and a meter of edition 3 whose cold register
-- is within its limit. It answers as a meter of edition 2 with no cold and the same in all other fields: with the same outcome, and with the same
-- meter afterwards but for the edition and the cold register, which stays as it was.
abbrev pub HeatAsInEdition2 : Type 0
HeatAsInEdition2 =
    (m : Meter) (cold : ℕ) (s : Sample) → cold ≤ largest_register → is_colder (ts m.card s) (tr m.card s) ≡ false →
    step_of (under_edition 3 cold m) s ≡ changed (under_edition 3 cold) (step_of (under_edition 2 0 m) s)

-- ---- the calls of a day

-- In a day that begins with 96 zeros and any meter, the cells are, all together, what the heat register has grown by: they and what it held at the
-- start add up to what it holds at the end. Each call goes on from the meter and the cells of the call before (specs/Day.antt).
abbrev pub CellsTogether : Type 0
CellsTogether =
    (m z : Meter) (day : List InQuarter) (cells : List ℕ) → DayCalls m zero_cells day z cells → sum cells + m.heat_register ≡ z.heat_register

-- In such a day no cell is ever above the limit of a register.
abbrev pub CellsWithinLimit : Type 0
CellsWithinLimit =
    (m z : Meter) (day : List InQuarter) (cells : List ℕ) → DayCalls m zero_cells day z cells → (k : ℕ) → cell_at cells k ≤ largest_register

-- So in such a day 73 is given to the next call exactly if its index is above 95, and never because of the cells.
abbrev pub IndexAlone : Type 0
IndexAlone =
    (m z : Meter) (day : List InQuarter) (cells : List ℕ) → DayCalls m zero_cells day z cells → (s : Sample) (i : ℕ) →
    (refusal_number (in_quarter_of z cells s i).stepped.outcome ≡ 73) ↔ (quarters ≤ i)

-- The calls of a day can be made of any samples with their index, in any order, from any meter and any cells on.
abbrev pub DayExists : Type 0
DayExists = (m : Meter) (cells : List ℕ) (day : List InQuarter) → DayCalls m cells day (day_of m cells day).0 (day_of m cells day).1

-- They lead to one meter only, and to one set of cells.
abbrev pub OnlyDay : Type 0
OnlyDay = (m z : Meter) (cells last : List ℕ) (day : List InQuarter) → DayCalls m cells day z last → (z, last) ≡ day_of m cells day

-- The calls of a day are among those of the register theorem: there is a list of calls (specs/Calls.antt) in which just the same is asked, and which
-- leads from the same first meter to the same last one.
abbrev pub DayStands : Type 0
DayStands =
    (m z : Meter) (cells last : List ℕ) (day : List InQuarter) → DayCalls m cells day z last →
    (ks : List Mark) × ((calls : Calls m ks z) × (asked_of calls ≡ day_asked m cells day))
