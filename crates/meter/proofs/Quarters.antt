-- What a call with a quarter's index does, whatever meter and cells it is given.
-- Assumes nothing.
use mathlib.Core.Path.{◌≡◌, refl, sym, ap, ◌∙◌, subst}
use mathlib.Core.List.{List, ◌++◌}
use mathlib.Core.Bool.{Bool, true, false, cond}
use Prim.Native.Nat.{ℕ, ◌+◌, ◌*◌, ◌-◌, ◌≤◌}
use native.Mathlib.Nat.{add-zero}
use native.Mathlib.Omega.{arith}
use lib.Dec.{ltb, leb}
use lib.ListN.{length, length-set}
use lib.Seq.{get_or-set_other}
use borrow.Author.Tests.{leb-false}
use Rattle.quantity.specs.Fractions.{floored}
use Rattle.quantity.specs.Refusals.{refusal_number, first_of, first_number, NoneApplies}
use Rattle.std.specs.Prelude.{Result, Ok, Err}
use Rattle.std.specs.List.{list_any}
use Rattle.std.specs.Result.{result_and}
use Rattle.quantity.specs.declared.refusal.Refusal.{Refusal}
use Rattle.quantity.specs.declared.refusal.Refusal.TheVariants.{Profile}
use Rattle.quantity.proofs.Conditions.{neither}
use Rattle.quantity.proofs.Rows.{first_number_lem, parts, none_applies, no_refusal, of_some_row}
use Rattle.meter.specs.Answers.{NoRowRefuses}
use Rattle.meter.specs.Calls.{is_accepted}
use Rattle.meter.specs.Profile.{quarters, profile_rows, cell_at, raised_at, cells_after, by_profile, in_quarter_of}
use Rattle.meter.specs.Inside.Quarters.{Admitted}
use Rattle.meter.specs.Register.{own_register, is_same}
use Rattle.meter.specs.Sample.{sample_heat}
use Rattle.meter.specs.State.{largest_register}
use Rattle.meter.specs.Step.{added_by, card_and_state_rows, sample_rows, step_of}
use Rattle.meter.specs.Theorems.{InQuarterExactly, OtherCellsStay}
use Rattle.meter.specs.declared.card.Card.{Card}
use Rattle.meter.specs.declared.profile.Profiled.{Profiled}
use Rattle.meter.specs.declared.register.Register.TheVariants.{Heat}
use Rattle.meter.specs.declared.sample.Sample.{Sample}
use Rattle.meter.specs.declared.state.Meter.{Meter}
use Rattle.meter.specs.declared.stepping.Stepped.{Stepped}
use Rattle.meter.proofs.Accepted.{accepted_limits}
use Rattle.meter.proofs.Answers.{step_outcome, accepted_exactly}
use Rattle.meter.proofs.Cells.{raised_by_none, none_above}
use Rattle.meter.proofs.Leaves.{Leaves, adds, counts, keeps, step_leaves}

-- what a sample with this outcome adds to the heat register
abbrev pub heat_by : Card → Sample → Result Unit Refusal → ℕ
heat_by c s (Ok u) = added_by Heat c s
heat_by c s (Err n) = 0

pub grown : (m : Meter) (s : Sample) (a : Stepped) → Leaves m s a → a.meter.heat_register ≡ m.heat_register + heat_by m.card s a.outcome
grown m s a (adds h) = refl
grown m s a (counts n h) = sym (add-zero m.heat_register)
grown m s a (keeps n) = sym (add-zero m.heat_register)

-- is no more than a register can hold
at_most : (b : Bool) (n limit : ℕ) → n ≤ limit → cond b n 0 ≤ limit
at_most true n limit h = h
at_most false n limit h = omega arith

small : (m : Meter) (s : Sample) (a : Stepped) → Leaves m s a → heat_by m.card s a.outcome ≤ largest_register
small m s a (adds h) = at_most (is_same Heat (own_register m.card s)) (floored (sample_heat m.card s)) largest_register (omega (arith, (accepted_limits m s h.limit).own))
small m s a (counts n h) = omega arith
small m s a (keeps n) = omega arith

-- and is what it adds to the cell of its index
pub cells_raised : (c : Card) (cells : List ℕ) (s : Sample) (i : ℕ) (o : Result Unit Refusal) → cells_after c cells s i o ≡ raised_at cells i (heat_by c s o)
cells_raised c cells s i (Ok u) = by (is_same Heat (own_register c s)) (floored (sample_heat c s))
  where
    by : (own : Bool) (n : ℕ) → cond own (raised_at cells i n) cells ≡ raised_at cells i (cond own n 0)
    by true n = refl
    by false n = sym (raised_by_none cells i)
cells_raised c cells s i (Err n) = sym (raised_by_none cells i)

-- where 73 does not refuse, the index is a quarter's and no cell is above its limit
pub admitted : (cells : List ℕ) (i : ℕ) → first_of (profile_rows cells i) ≡ Ok tt → Admitted cells i
unfolding profile_rows
admitted cells i e =
    let p = neither (leb quarters i) (list_any (λ (cell : ℕ). ltb largest_register cell) cells) (none_applies (profile_rows cells i) e).0 in
    record {
      within = leb-false quarters i p.0;
      small = none_above largest_register cells p.1;
    }

-- and where a row refuses, it is 73
pub only_73 : (cells : List ℕ) (i : ℕ) (r : Refusal) → first_of (profile_rows cells i) ≡ Err r → r ≡ Profile
unfolding profile_rows
only_73 cells i r e = of_some_row (λ (q : Refusal). q ≡ Profile) (profile_rows cells i) r (refl, tt) e

-- no call lowers the heat register
pub not_below : (m : Meter) (s : Sample) (a : Stepped) → a ≡ step_of m s → m.heat_register ≤ a.meter.heat_register
not_below m s a f = omega (arith, grown m s a (subst (Leaves m s) (sym f) (step_leaves m s)))

-- so what it grows by fits beside what stands in a cell
pub fits : (m : Meter) (cells : List ℕ) (s : Sample) (i : ℕ) (a : Stepped) → length cells ≡ quarters → Admitted cells i → a ≡ step_of m s →
    cell_at cells i + (a.meter.heat_register - m.heat_register) ≤ 2 * largest_register
fits m cells s i a long p f =
    let h = subst (Leaves m s) (sym f) (step_leaves m s) in
    let apart = grown m s a h in
    let heat_small = small m s a h in
    let cell_small = p.small i (omega (arith, p.within)) in
    omega arith

-- and the answer, with the cell raised by it, is that of the definition
pub answer_is : (m : Meter) (cells : List ℕ) (s : Sample) (i : ℕ) (a : Stepped) → a ≡ step_of m s →
    record { stepped = a; cells = raised_at cells i (a.meter.heat_register - m.heat_register) } ≡ by_profile m cells s i (Ok tt)
answer_is m cells s i a f =
    let h = subst (Leaves m s) (sym f) (step_leaves m s) in
    let apart = grown m s a h in
    let is : a.meter.heat_register - m.heat_register ≡ heat_by m.card s a.outcome = omega arith in
    ap (λ (l : List ℕ). record { stepped = a; cells = l }) (ap (raised_at cells i) is ∙ sym (cells_raised m.card cells s i a.outcome))
    ∙ ap (λ (b : Stepped). record { stepped = b; cells = cells_after m.card cells s i b.outcome }) f

-- ---- any cells and any answer

-- the number is that of the first row that applies: row 73 comes before those of the step
pub in_quarter_number : (m : Meter) (cells : List ℕ) (s : Sample) (i : ℕ) (a : Profiled) → a ≡ in_quarter_of m cells s i →
    refusal_number a.stepped.outcome ≡ first_number (profile_rows cells i ++ (card_and_state_rows m ++ sample_rows m s))
unfolding in_quarter_of
in_quarter_number m cells s i a same =
    ap (λ (x : Profiled). refusal_number x.stepped.outcome) same
    ∙ ap refusal_number (by (first_of (profile_rows cells i)) ∙ sym (parts (profile_rows cells i) _))
    ∙ first_number_lem (profile_rows cells i ++ (card_and_state_rows m ++ sample_rows m s))
  where
    by : (o : Result Unit Refusal) → (by_profile m cells s i o).stepped.outcome ≡ result_and o (first_of (card_and_state_rows m ++ sample_rows m s))
    by (Ok u) = step_outcome m s
    by (Err r) = refl

-- a call raises the cell of its index by what it adds to the heat register, which is nothing where it is refused
by_rows : (m : Meter) (cells : List ℕ) (s : Sample) (i : ℕ) (o : Result Unit Refusal) →
    (by_profile m cells s i o).cells ≡ raised_at cells i (heat_by m.card s (by_profile m cells s i o).stepped.outcome)
by_rows m cells s i (Ok u) = cells_raised m.card cells s i (step_of m s).outcome
by_rows m cells s i (Err n) = sym (raised_by_none cells i)

pub in_quarter_cells : (m : Meter) (cells : List ℕ) (s : Sample) (i : ℕ) →
    (in_quarter_of m cells s i).cells ≡ raised_at cells i (heat_by m.card s (in_quarter_of m cells s i).stepped.outcome)
unfolding in_quarter_of
in_quarter_cells m cells s i = by_rows m cells s i (first_of (profile_rows cells i))

-- it accepts exactly what neither row 73 nor the step refuses
pub in_quarter_exactly : (m : Meter) (cells : List ℕ) (s : Sample) (i : ℕ) (a : Profiled) → a ≡ in_quarter_of m cells s i → InQuarterExactly m cells s i a
unfolding in_quarter_of
in_quarter_exactly m cells s i a same =
    subst (InQuarterExactly m cells s i) (sym same) (
      forth (first_of (profile_rows cells i)) refl,
      λ h. ap (λ (o : Result Unit Refusal). is_accepted (by_profile m cells s i o).stepped.outcome) (no_refusal (profile_rows cells i) h.0)
          ∙ (accepted_exactly m s _ refl).1 h.1,
    )
  where
    forth : (o : Result Unit Refusal) → first_of (profile_rows cells i) ≡ o → is_accepted (by_profile m cells s i o).stepped.outcome ≡ true →
        NoneApplies (profile_rows cells i) × NoRowRefuses m s
    forth (Ok u) e a = (none_applies (profile_rows cells i) e, (accepted_exactly m s _ refl).0 a)
    forth (Err r) e a = absurd cc

-- so a cell other than the index's is as it was
pub other_cells_stay : (m : Meter) (cells : List ℕ) (s : Sample) (i : ℕ) (a : Profiled) → a ≡ in_quarter_of m cells s i → OtherCellsStay cells i a
other_cells_stay m cells s i a same k apart =
    ap (λ (x : Profiled). cell_at x.cells k) same
    ∙ ap (λ (l : List ℕ). cell_at l k) (in_quarter_cells m cells s i)
    ∙ get_or-set_other cells i k (cell_at cells i + heat_by m.card s (in_quarter_of m cells s i).stepped.outcome) 0 apart

-- they stay as many
pub as_many : (m : Meter) (cells : List ℕ) (s : Sample) (i : ℕ) → length (in_quarter_of m cells s i).cells ≡ length cells
as_many m cells s i = ap length (in_quarter_cells m cells s i) ∙ length-set cells i _
