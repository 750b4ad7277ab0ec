-- The calls of a day: the cells together are what the heat register grew by.
-- Assumes nothing.
use mathlib.Core.Path.{◌≡◌, refl, sym, ap, ◌∙◌, subst}
use mathlib.Core.List.{List, [], ◌∷◌}
use mathlib.Core.Bool.{Bool, true, false}
use Prim.Native.Nat.{ℕ, ◌+◌, ◌≤◌, ◌<◌}
use native.Mathlib.Nat.{add-zero}
use native.Mathlib.Omega.{arith}
use lib.Dec.{leb, eqb}
use lib.ListN.{length, length-replicate}
use lib.Seq.{get_or-set_same}
use borrow.Author.Tests.{le-leb, leb-true, eqb-false}
use Rattle.quantity.specs.Fractions.{floored}
use Rattle.quantity.specs.Refusals.{number_of, refusal_number, first_of}
use Rattle.std.specs.Prelude.{Result, Ok, Err}
use Rattle.std.specs.List.{sum}
use Rattle.quantity.specs.declared.refusal.Refusal.{Refusal}
use Rattle.quantity.proofs.Rows.{no_refusal}
use Rattle.meter.specs.Calls.{Calls, none, in_quarter, is_accepted, mark_of}
use Rattle.meter.specs.Day.{InQuarter, DayCalls, no_call, call, day_of, day_asked}
use Rattle.meter.specs.Profile.{quarters, zero_cells, profile_rows, cell_at, by_profile, in_quarter_of}
use Rattle.meter.specs.Register.{own_register, added_to}
use Rattle.meter.specs.Run.{Asking, asks_in_quarter, asked_of}
use Rattle.meter.specs.Sample.{sample_heat}
use Rattle.meter.specs.State.{largest_register}
use Rattle.meter.specs.Step.{step_of}
use Rattle.meter.specs.Sum.{Mark}
use Rattle.meter.specs.Theorems.{CellsTogether, CellsWithinLimit, IndexAlone, DayExists, OnlyDay, DayStands, CellAsRegister}
use Rattle.meter.specs.declared.card.Card.{Card}
use Rattle.meter.specs.declared.profile.Profiled.{Profiled}
use Rattle.meter.specs.declared.register.Register.{Register}
use Rattle.meter.specs.declared.register.Register.TheVariants.{Heat}
use Rattle.meter.specs.declared.sample.Sample.{Sample}
use Rattle.meter.specs.declared.state.Meter.{Meter}
use Rattle.meter.specs.declared.stepping.Stepped.{Stepped}
use Rattle.meter.proofs.Accepted.{accepted_state, accepted_limits}
use Rattle.meter.proofs.Along.{step_not_73}
use Rattle.meter.proofs.Cells.{sum_raised, cell_at_most, sum_zeros, all_at_most}
use Rattle.meter.proofs.Leaves.{Leaves, adds, counts, keeps, leaves}
use Rattle.meter.proofs.Quarters.{heat_by, grown, cells_raised, admitted, in_quarter_exactly, in_quarter_cells, as_many}
use Rattle.meter.proofs.Registers.{room_in_each}

-- ---- one call

-- all cells together are raised by what the call adds to the heat register
by_rows : (m : Meter) (cells : List ℕ) (s : Sample) (i : ℕ) (o : Result Unit Refusal) → first_of (profile_rows cells i) ≡ o → length cells ≡ quarters →
    sum (by_profile m cells s i o).cells ≡ sum cells + heat_by m.card s (by_profile m cells s i o).stepped.outcome
by_rows m cells s i (Ok u) e long =
    let within = (admitted cells i e).within in
    ap sum (cells_raised m.card cells s i (step_of m s).outcome) ∙ sum_raised cells i _ (omega arith)
by_rows m cells s i (Err n) e long = sym (add-zero (sum cells))

raised_by_call : (m : Meter) (cells : List ℕ) (s : Sample) (i : ℕ) → length cells ≡ quarters →
    sum (in_quarter_of m cells s i).cells ≡ sum cells + heat_by m.card s (in_quarter_of m cells s i).stepped.outcome
unfolding in_quarter_of
raised_by_call m cells s i long = by_rows m cells s i (first_of (profile_rows cells i)) refl long

-- what is no more than the register has room in it for what the call adds
room_beside : (m : Meter) (s : Sample) (a : Stepped) (n : ℕ) → Leaves m s a → n ≤ m.heat_register → n ≤ largest_register →
    n + heat_by m.card s a.outcome ≤ largest_register
room_beside m s a n (adds h) few small =
    let heat = floored (sample_heat m.card s) in
    let room = room_in_each Heat (own_register m.card s) m heat (accepted_state m h.state).registers (accepted_limits m s h.limit).own in
    omega (arith, room)
room_beside m s a n (counts x h) few small = omega arith
room_beside m s a n (keeps x) few small = omega arith

-- an accepted heat sample's cell and the heat register are raised alike
all_heat : (c : Card) (s : Sample) (o : Result Unit Refusal) → is_accepted o ≡ true → own_register c s ≡ Heat → heat_by c s o ≡ floored (sample_heat c s)
all_heat c s (Ok u) a own = ap (λ (r : Register). added_to Heat r (floored (sample_heat c s))) own
all_heat c s (Err n) a own = absurd cc

index_within : (m : Meter) (cells : List ℕ) (s : Sample) (i : ℕ) → is_accepted (in_quarter_of m cells s i).stepped.outcome ≡ true → i < quarters
index_within m cells s i a = (admitted cells i (no_refusal (profile_rows cells i) ((in_quarter_exactly m cells s i _ refl).0 a).0)).within

by_definition : (m : Meter) (cells : List ℕ) (s : Sample) (i : ℕ) → length cells ≡ quarters → CellAsRegister m cells s i (in_quarter_of m cells s i)
by_definition m cells s i long a own =
    let p = in_quarter_of m cells s i in
    let heat = all_heat m.card s p.stepped.outcome a own in
    let within = index_within m cells s i a in (
      ap (λ (l : List ℕ). cell_at l i) (in_quarter_cells m cells s i)
          ∙ get_or-set_same cells i (cell_at cells i + heat_by m.card s p.stepped.outcome) 0 (omega arith)
          ∙ ap (λ (n : ℕ). cell_at cells i + n) heat,
      grown m s p.stepped (leaves m (asks_in_quarter cells s i)) ∙ ap (λ (n : ℕ). m.heat_register + n) heat,
    )

pub cell_as_register : (m : Meter) (cells : List ℕ) (s : Sample) (i : ℕ) (a : Profiled) → a ≡ in_quarter_of m cells s i → length cells ≡ quarters →
    CellAsRegister m cells s i a
cell_as_register m cells s i a same long = subst (CellAsRegister m cells s i) (sym same) (by_definition m cells s i long)

-- ---- a list of calls

-- since the heat register stood at start: 96 cells, which together are what it grew by, and no more than it can hold
record Since (start : ℕ) (m : Meter) (cells : List ℕ) : Type 0 where
  long : length cells ≡ quarters
  growth : sum cells + start ≡ m.heat_register
  small : sum cells ≤ largest_register

since_after : (start : ℕ) (m : Meter) (cells : List ℕ) (s : Sample) (i : ℕ) → Since start m cells →
    Since start (in_quarter_of m cells s i).stepped.meter (in_quarter_of m cells s i).cells
since_after start m cells s i g =
    let a = in_quarter_of m cells s i in
    let h = leaves m (asks_in_quarter cells s i) in
    let raised = raised_by_call m cells s i g.long in
    let begun = g.growth in
    record {
      long = as_many m cells s i ∙ g.long;
      growth = omega (arith, grown m s a.stepped h);
      small = subst (λ (n : ℕ). n ≤ largest_register) (sym raised) (room_beside m s a.stepped (sum cells) h (omega arith) g.small);
    }

since_along : {m z : Meter} {cells last : List ℕ} {qs : List InQuarter} (start : ℕ) → DayCalls m cells qs z last → Since start m cells → Since start z last
since_along start no_call g = g
since_along start (call {m = m} {cells = cells} q a p rest) g =
    let after = since_after start m cells q.sample q.index g in
    since_along start rest (subst (λ (x : Profiled). Since start x.stepped.meter x.cells) (sym p) after)

-- from zero cells
since_start : (m z : Meter) (qs : List InQuarter) (cells : List ℕ) → DayCalls m zero_cells qs z cells → Since m.heat_register z cells
since_start m z qs cells calls =
    let nothing_yet = sum_zeros quarters in
    since_along m.heat_register calls (record { long = length-replicate {A = ℕ} quarters 0; growth = omega arith; small = omega arith })

pub cells_together : CellsTogether
cells_together m z qs cells calls = (since_start m z qs cells calls).growth

pub cells_within_limit : CellsWithinLimit
cells_within_limit m z qs cells calls k = omega (arith, cell_at_most cells k, (since_start m z qs cells calls).small)

-- ---- 73 from the index alone

not_refused : (cells : List ℕ) (i : ℕ) → leb quarters i ≡ false → ((k : ℕ) → cell_at cells k ≤ largest_register) → first_of (profile_rows cells i) ≡ Ok tt
unfolding profile_rows
not_refused cells i e small =
    no_refusal (profile_rows cells i) (simp (e, all_at_most largest_register cells small) (refl, tt))

other_number : (n : ℕ) → eqb n 73 ≡ false → n ≡ 73 → ⊥
other_number n h e = eqb-false n 73 h e

pub index_alone : IndexAlone
unfolding in_quarter_of profile_rows first_of refusal_number number_of
index_alone m z qs cells calls s i = (
  by (leb quarters i) refl,
  λ h. simp (le-leb quarters i h),
)
  where
    by : (b : Bool) → leb quarters i ≡ b → refusal_number (in_quarter_of z cells s i).stepped.outcome ≡ 73 → quarters ≤ i
    by true e f = leb-true quarters i e
    by false e f =
        let o = not_refused cells i e (cells_within_limit m z qs cells calls) in
        absurd (other_number _ (step_not_73 z s) (ap (λ (x : Result Unit Refusal). refusal_number (by_profile z cells s i x).stepped.outcome) (sym o) ∙ f))

-- ---- such calls exist

pub day_exists : DayExists
day_exists m cells [] = no_call
day_exists m cells (q ∷ qs) =
    let a = in_quarter_of m cells q.sample q.index in
    call q a refl (day_exists a.stepped.meter a.cells qs)

only : {m z : Meter} {cells last : List ℕ} {qs : List InQuarter} → DayCalls m cells qs z last → (z, last) ≡ day_of m cells qs
only no_call = refl
only (call {z = z} {last = last} {day = qs} q a p rest) = subst (λ (x : Profiled). (z, last) ≡ day_of x.stepped.meter x.cells qs) p (only rest)

pub only_day : OnlyDay
only_day m z cells last qs calls = only calls

stands : {m z : Meter} {cells last : List ℕ} {qs : List InQuarter} → DayCalls m cells qs z last →
    (ks : List Mark) × ((calls : Calls m ks z) × (asked_of calls ≡ day_asked m cells qs))
stands no_call = ([], (none, refl))
stands (call {cells = cells} {day = qs} q a p rest) =
    let others = stands rest in
    let asked = asks_in_quarter cells q.sample q.index in (
      mark_of q.sample a.stepped ∷ others.0,
      (
        in_quarter cells q.sample q.index a p others.1.0,
        ap (λ (l : List Asking). asked ∷ l) (others.1.1 ∙ ap (λ (x : Profiled). day_asked x.stepped.meter x.cells qs) p),
      ),
    )

pub day_stands : DayStands
day_stands m z cells last qs calls = stands calls
