-- The fresh meter, and the register theorem: each register lies within its bounds of its exact sum.
-- Assumes nothing.
use mathlib.Core.Path.{◌≡◌, refl, sym, ◌∙◌, ap, subst}
use mathlib.Core.List.{List, [], ◌∷◌}
use mathlib.Core.Bool.{Bool, true, false, cond, ◌&&◌}
use Prim.Native.Nat.{ℕ, ◌+◌, ◌*◌, ◌≤◌}
use native.Mathlib.Nat.{add-zero}
use native.Mathlib.Omega.{arith}
use lib.Dec.{ltb}
use borrow.Author.Tests.{ltb-true, ltb-false}
use Rattle.quantity.specs.Refusals.{refusal_number, row, first_of, first_number}
use Rattle.std.specs.Prelude.{Result, Ok, Err}
use Rattle.std.specs.Result.{result_and}
use Rattle.quantity.specs.declared.refusal.Refusal.{Refusal}
use Rattle.quantity.specs.declared.refusal.Refusal.TheVariants as R
use Rattle.quantity.proofs.Rows.{first_number_lem, none_applies, no_refusal, none_of_parts, none_together}
use Rattle.water.specs.Table.{Table, table_for}
use Rattle.water.specs.Theorems.{TableBounds}
use Rattle.water.specs.Heat.{exact_heat}
use Rattle.quantity.specs.declared.units.Temperature.{Temperature}
use Rattle.quantity.specs.Fractions.{plus, floored}
use Rattle.quantity.specs.declared.fraction.Fraction.{Fraction}
use Rattle.water.proofs.Bounds.{bounded}
use Rattle.water.proofs.ExactHeats.{heat_is_fraction, no_volume_no_heat, at_least_2000, of_either_order}
use Rattle.meter.specs.Edition.{is_other_edition}
use Rattle.meter.specs.Card.{card_rows}
use Rattle.meter.specs.State.{fresh_rows, fresh_of, zeros}
use Rattle.meter.specs.Sample.{volume_of, has_volume, ts, tr, sample_heat}
use Rattle.meter.specs.Register.{register_of, own_register, is_same}
use Rattle.meter.specs.Step.{added_by, accepting}
use Rattle.meter.specs.Sum.{Mark, is_own, nothing, sum_from, allowance_from, sum_of, allowance_of, WithinBounds}
use Rattle.meter.specs.Calls.{Calls, mark_of}
use Rattle.meter.specs.Run.{Asking, sample_asked, answer_of, marks_asked, last_asked}
use Rattle.meter.specs.Answers.{NoRowRefuses}
use Rattle.meter.specs.Theorems.{IsFresh, FreshExactly, RegisterBounds}
use Rattle.meter.specs.declared.card.Card.{Card}
use Rattle.meter.specs.declared.state.Meter.{Meter}
use Rattle.meter.specs.declared.register.Register.{Register}
use Rattle.meter.specs.declared.register.Register.TheVariants.{Heat, Cold}
use Rattle.meter.specs.declared.sample.Sample.{Sample}
use Rattle.meter.specs.declared.stepping.Stepped.{Stepped}
use Rattle.meter.proofs.Keeping.{HeatBounds, start, keep}
use Rattle.meter.proofs.Existence.{by_askings}
use Rattle.meter.proofs.Leaves.{Leaves, adds, counts, keeps, leaves}
use Rattle.meter.proofs.Registers.{unchanged, empty}
use Rattle.meter.proofs.Accepted.{accepted_card, accepted_pair, in_table}

-- the exact heat by a bounded table, between temperatures of it that lie at least 1 K apart
between : (w : Table) → TableBounds w → (u : ℕ) (warm cold measured : Temperature) → cold.0 + 100 ≤ warm.0 → warm.0 ≤ 100 * w.last →
    HeatBounds (ltb 0 u) (exact_heat w u warm cold measured)
between w b u warm cold measured apart most = record {
  is_fraction = heat_is_fraction w b u warm cold measured;
  none = λ e.
      let no_volume : u ≡ 0 = omega (arith, ltb-false 0 u e) in
      rw no_volume (no_volume_no_heat w _ _ _);
  least = λ e. at_least_2000 w b u warm cold measured (ltb-true 0 u e) apart most;
}

-- so the exact heat of an accepted sample, whichever of its temperatures is the warmer
heat_bounds : (m : Meter) (s : Sample) → NoRowRefuses m s → HeatBounds (has_volume m.card s) (sample_heat m.card s)
unfolding sample_heat
heat_bounds m s h =
    let c = m.card in
    let w = table_for c.pressure in
    let b = bounded _ in
    let card = accepted_card c h.card in
    let least = card.delta_min.0 in
    let pair = accepted_pair m.edition c s h.range in
    let inside = in_table m.edition c s card h.range in
    of_either_order (HeatBounds (has_volume c s)) w (volume_of c s) (ts c s) (tr c s) c.place
    (λ e. between w b _ _ _ _ (omega (arith, pair.colder e)) inside.of_return)
    (λ e. between w b _ _ _ _ (omega (arith, pair.not_colder e)) inside.of_supply)

-- what an accepted sample leaves in a register
pub raised : (r : Register) (m : Meter) (s : Sample) → register_of r (accepting m s) ≡ register_of r m + added_by r m.card s
raised Heat m s = refl
raised Cold m s = refl

-- the bounds of a register after a sample that is its own or not
abbrev After : Bool → ℕ → ℕ → Fraction → Card → Sample → Type 0
After own register n sum c s = WithinBounds register (cond (own && has_volume c s) (n + 1) n) (cond own (plus sum (sample_heat c s)) sum)

-- are kept by an accepted sample, which raises its own register by its floored heat and the other by nothing
taken : (own : Bool) (register n : ℕ) (sum : Fraction) (c : Card) (s : Sample) → HeatBounds (has_volume c s) (sample_heat c s) → WithinBounds register n sum →
    After own (register + cond own (floored (sample_heat c s)) 0) n sum c s
taken true register n sum c s w b = keep _ _ _ _ _ w b
taken false register n sum c s w b = subst (λ (x : ℕ). WithinBounds x n sum) (sym (add-zero register)) b

-- and by any call
one : (r : Register) (m : Meter) (s : Sample) (a : Stepped) (n : ℕ) (sum : Fraction) → Leaves m s a → WithinBounds (register_of r m) n sum →
    After (is_own r m.card (mark_of s a)) (register_of r a.meter) n sum m.card s
one r m s a n sum (adds h) b =
    let own = is_same r (own_register m.card s) in
    subst (λ (x : ℕ). After own x n sum m.card s) (sym (raised r m s)) (taken own _ _ _ _ _ (heat_bounds m s h) b)
one r m s a n sum (counts x h) b = subst (λ (y : ℕ). WithinBounds y n sum) (sym (unchanged r m)) b
one r m s a n sum (keeps x) b = b

-- card and edition stay the same
pub record Stays (m z : Meter) : Type 0 where
  pub card : z.card ≡ m.card
  pub edition : z.edition ≡ m.edition

-- by a call
pub stays_after : (m : Meter) (s : Sample) (a : Stepped) → Leaves m s a → Stays m a.meter
stays_after m s a (adds h) = record { card = refl; edition = refl }
stays_after m s a (counts x h) = record { card = refl; edition = refl }
stays_after m s a (keeps x) = record { card = refl; edition = refl }

from : (r : Register) (c : Card) (m : Meter) (n : ℕ) (sum : Fraction) (qs : List Asking) → m.card ≡ c → WithinBounds (register_of r m) n sum →
    WithinBounds (register_of r (last_asked m qs)) (allowance_from r c n (marks_asked m qs)) (sum_from r c sum (marks_asked m qs))
from r c m n sum [] e b = b
from r c m n sum (q ∷ qs) e b =
    let s = sample_asked q in
    let a = answer_of m q in
    let h = leaves m q in
    let after = subst (λ (x : Card). After (is_own r x (mark_of s a)) (register_of r a.meter) n sum x s) e (one r m s a n sum h b) in
    from r c a.meter _ _ qs ((stays_after m s a h).card ∙ e) after

-- and so along the calls
stays_along : (m : Meter) (qs : List Asking) → Stays m (last_asked m qs)
stays_along m [] = record { card = refl; edition = refl }
stays_along m (q ∷ qs) =
    let one = stays_after m (sample_asked q) (answer_of m q) (leaves m q) in
    let others = stays_along (answer_of m q).meter qs in
    record { card = others.card ∙ one.card; edition = others.edition ∙ one.edition }

pub edition_along : (m : Meter) (ks : List Mark) (z : Meter) → Calls m ks z → z.edition ≡ m.edition
edition_along m = by_askings m (λ (ks : List Mark) (z : Meter). z.edition ≡ m.edition) (λ qs. (stays_along m qs).edition)

-- only the outcome of no refusal makes a meter
by_rows : (x m : Meter) (o : Result Unit Refusal) → result_and o (Ok x) ≡ Ok m → (o ≡ Ok tt) × (x ≡ m)
by_rows x m (Ok u) e = (refl, cc)
by_rows x m (Err n) e = absurd cc

-- what `fresh` makes is the meter with zeros, of this card and edition, and the card is allowed
pub fresh_zeros : (c : Card) (e : ℕ) (m : Meter) → fresh_of c e ≡ Ok m → IsFresh c e m
unfolding fresh_of
fresh_zeros c e m h =
    let p = by_rows (zeros c e) m (first_of (fresh_rows c e)) h in
    let none_refuses = none_of_parts (card_rows c) _ (none_applies (fresh_rows c e) p.0) in
    record { card = no_refusal (card_rows c) none_refuses.0; edition = none_refuses.1.0; meter = p.1 }

-- and every accepted card has one in each edition
pub fresh_made : (c : Card) (e : ℕ) → first_of (card_rows c) ≡ Ok tt → is_other_edition e ≡ false → fresh_of c e ≡ Ok (zeros c e)
unfolding fresh_of
fresh_made c e h known =
    let none_refuses = none_together (card_rows c) (row R.State (is_other_edition e) ∷ []) (none_applies (card_rows c) h) (known, tt) in
    ap (λ (o : Result Unit Refusal). result_and o (Ok (zeros c e))) (no_refusal (fresh_rows c e) none_refuses)

pub fresh_exactly : (c : Card) (e : ℕ) (x : Result Meter Refusal) → x ≡ fresh_of c e → FreshExactly c e x
fresh_exactly c e x same m = (
  λ h. fresh_zeros c e m (sym same ∙ h),
  λ f. same ∙ fresh_made c e f.card f.edition ∙ ap Ok f.meter,
)

-- its number is that of the first row that applies
pub fresh_number : (c : Card) (e : ℕ) (x : Result Meter Refusal) → x ≡ fresh_of c e → refusal_number x ≡ first_number (fresh_rows c e)
unfolding fresh_of refusal_number
fresh_number c e x same = ap refusal_number same ∙ by (first_of (fresh_rows c e)) ∙ first_number_lem (fresh_rows c e)
  where
    by : (o : Result Unit Refusal) → refusal_number (result_and o (Ok (zeros c e))) ≡ refusal_number o
    by (Ok u) = refl
    by (Err r) = refl

pub register_bounds : RegisterBounds
register_bounds c e m h ks z calls r =
    let m_is = (fresh_zeros c e m h).meter in
    let begun = subst (λ (x : Meter). WithinBounds (register_of r x) 0 nothing) m_is (subst (λ (x : ℕ). WithinBounds x 0 nothing) (sym (empty r c e)) start) in
    by_askings m (λ (ks : List Mark) (z : Meter). WithinBounds (register_of r z) (allowance_of r c ks) (sum_of r c ks))
    (λ qs. from r c m 0 nothing qs (sym (ap (λ (x : Meter). x.card) m_is)) begun)
    ks z calls
