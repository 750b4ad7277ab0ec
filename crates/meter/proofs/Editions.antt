-- What an edition changes: which samples it accepts, and what the fields add up to along the calls from a fresh meter.
-- Assumes nothing.
use mathlib.Core.Path.{◌≡◌, refl, sym, ◌∙◌, ap, subst}
use mathlib.Core.List.{List, [], ◌∷◌}
use mathlib.Core.Bool.{true, false, cond}
use Prim.Native.Nat.{ℕ, ◌+◌}
use native.Mathlib.Omega.{arith}
use Rattle.std.specs.Prelude.{Ok}
use Rattle.meter.specs.Edition.{counts_cold}
use Rattle.meter.specs.State.{zeros, fresh_of}
use Rattle.meter.specs.Sample.{volume_of}
use Rattle.meter.specs.Register.{is_same}
use Rattle.meter.specs.Step.{kept_of}
use Rattle.meter.specs.Sum.{Mark, is_own}
use Rattle.meter.specs.Calls.{Calls, mark_of, is_accepted}
use Rattle.meter.specs.Run.{Asking, sample_asked, answer_of, marks_asked, last_asked}
use Rattle.meter.specs.Theorems.{AllOwn, HeatAlone, HeatOnly, total_of, AcceptedCount, VolumeTogether, KeptSeconds}
use Rattle.meter.specs.declared.card.Card.{Card}
use Rattle.meter.specs.declared.register.Register.TheVariants.{Heat, Cold}
use Rattle.meter.specs.declared.state.Meter.{Meter}
use Rattle.meter.specs.declared.sample.Sample.{Sample}
use Rattle.meter.specs.declared.stepping.Stepped.{Stepped}
use Rattle.meter.proofs.Accepted.{accepted_order}
use Rattle.meter.proofs.Existence.{by_askings}
use Rattle.meter.proofs.Leaves.{Leaves, adds, counts, keeps, leaves}
use Rattle.meter.proofs.Own.{other_nothing}
use Rattle.meter.proofs.Theorem.{stays_after, fresh_zeros}

-- in an edition that counts no cold, what a call marks as accepted is the heat register's own
heat_after : (m : Meter) (s : Sample) (a : Stepped) → Leaves m s a → counts_cold m.edition ≡ false → is_accepted a.outcome ≡ true →
    is_own Heat m.card (mark_of s a) ≡ true
heat_after m s a (adds h) k e = ap (is_same Heat) (accepted_order m.edition m.card s h.range k)
heat_after m s a (counts n h) k e = e
heat_after m s a (keeps n) k e = e

-- and so along the calls, each with the card and the edition of the first
heat_along : (m : Meter) (qs : List Asking) → counts_cold m.edition ≡ false → AllOwn Heat m.card (marks_asked m qs)
heat_along m [] k = tt
heat_along m (q ∷ qs) k =
    let s = sample_asked q in
    let a = answer_of m q in
    let stays = stays_after m s a (leaves m q) in
    let others = heat_along a.meter qs (ap counts_cold stays.edition ∙ k) in
    (heat_after m s a (leaves m q) k, subst (λ (c : Card). AllOwn Heat c (marks_asked a.meter qs)) stays.card others)

-- and the cold register has no part in such a list
heat_alone : {c : Card} {ks : List Mark} → AllOwn Heat c ks → HeatAlone c ks
heat_alone {c} {ks} own =
    let none = other_nothing Heat Cold c ks refl own in
    record { own = own; cold_sum = none.0; cold_allowance = none.1 }

pub heat_only : HeatOnly
heat_only c e m h k =
    let f = (fresh_zeros c e m h).meter in
    let none_cold : counts_cold m.edition ≡ false = ap counts_cold (sym (ap (λ (x : Meter). x.edition) f)) ∙ k in
    by_askings m (λ (ks : List Mark) (z : Meter). HeatAlone c ks)
    (λ qs. heat_alone (subst (λ (x : Card). AllOwn Heat x (marks_asked m qs)) (sym (ap (λ (x : Meter). x.card) f)) (heat_along m qs none_cold)))

-- What an accepted sample adds to a field, and a refused one leaves there, the field holds along the calls: they have the card of the first.
abbrev Adds : (Meter → ℕ) → (Card → Sample → ℕ) → Type 0
Adds field f = (m : Meter) (s : Sample) (a : Stepped) → Leaves m s a → field a.meter ≡ field m + cond (is_accepted a.outcome) (f m.card s) 0

total_along : (field : Meter → ℕ) (f : Card → Sample → ℕ) → Adds field f → (m : Meter) (qs : List Asking) →
    field (last_asked m qs) ≡ field m + total_of (f m.card) (marks_asked m qs)
total_along field f one m [] = omega arith
total_along field f one m (q ∷ qs) =
    let s = sample_asked q in
    let a = answer_of m q in
    let h = leaves m q in
    omega (
      arith,
      total_along field f one a.meter qs,
      one m s a h,
      ap (λ (c : Card). total_of (f c) (marks_asked a.meter qs)) (stays_after m s a h).card,
    )

-- from a fresh meter, where the field is zero, these are all
total_from_fresh : (field : Meter → ℕ) (f : Card → Sample → ℕ) → Adds field f → (c : Card) (e : ℕ) (m : Meter) → fresh_of c e ≡ Ok m →
    field (zeros c e) ≡ 0 → (ks : List Mark) (z : Meter) → Calls m ks z → field z ≡ total_of (f c) ks
total_from_fresh field f one c e m h none =
    let fresh = (fresh_zeros c e m h).meter in
    by_askings m (λ (ks : List Mark) (z : Meter). field z ≡ total_of (f c) ks)
    (λ qs. omega (arith, total_along field f one m qs, none, ap field fresh, ap (λ (x : Meter). total_of (f x.card) (marks_asked m qs)) fresh))

one_accepted : Adds (λ (m : Meter). m.accepted) (λ (c : Card) (s : Sample). 1)
one_accepted m s a (adds h) = refl
one_accepted m s a (counts n h) = omega arith
one_accepted m s a (keeps n) = omega arith

pub accepted_count : AcceptedCount
accepted_count c e m h = total_from_fresh (λ (x : Meter). x.accepted) (λ (c : Card) (s : Sample). 1) one_accepted c e m h refl

volume_added : Adds (λ (m : Meter). m.volume) volume_of
volume_added m s a (adds h) = refl
volume_added m s a (counts n h) = omega arith
volume_added m s a (keeps n) = omega arith

pub volume_together : VolumeTogether
volume_together c e m h = total_from_fresh (λ (x : Meter). x.volume) volume_of volume_added c e m h refl

kept_after : Adds (λ (m : Meter). m.kept_seconds) kept_of
kept_after m s a (adds h) = refl
kept_after m s a (counts n h) = omega arith
kept_after m s a (keeps n) = omega arith

pub kept_seconds : KeptSeconds
kept_seconds c e m h = total_from_fresh (λ (x : Meter). x.kept_seconds) kept_of kept_after c e m h refl
