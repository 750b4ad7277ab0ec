-- Whose own a sample is: exactly one register's, and nothing of it is the other's.
-- Assumes nothing.
use mathlib.Core.Path.{◌≡◌, refl, subst}
use mathlib.Core.Logic.{◌↔◌}
use mathlib.Core.List.{List, [], ◌∷◌}
use mathlib.Core.Bool.{Bool, true, false, ◌&&◌}
use Prim.Native.Nat.{ℕ}
use Rattle.quantity.proofs.Conditions.{both}
use Rattle.quantity.specs.declared.fraction.Fraction.{Fraction}
use Rattle.meter.specs.Register.{own_register, is_same}
use Rattle.meter.specs.Sum.{Mark, is_own, nothing, sum_from, sum_of, allowance_from, allowance_of}
use Rattle.meter.specs.Theorems.{OwnExactly, AllOwn}
use Rattle.meter.specs.declared.card.Card.{Card}
use Rattle.meter.specs.declared.register.Register.{Register}
use Rattle.meter.specs.declared.register.Register.TheVariants.{Heat, Cold}
use Rattle.meter.proofs.Registers.{same}

-- the same register is one
pub same_exactly : (r q : Register) → (is_same r q ≡ true) ↔ (r ≡ q)
same_exactly r q = (are r q, λ e. subst (λ (x : Register). is_same r x ≡ true) e (same r))
  where
    are : (r q : Register) → is_same r q ≡ true → r ≡ q
    are Heat Heat e = refl
    are Cold Cold e = refl
    are Heat Cold e = absurd cc
    are Cold Heat e = absurd cc

pub own_exactly : OwnExactly
own_exactly r c k =
    let is_that = same_exactly r (own_register c k.sample) in (
      λ e. let h = both k.accepted (is_same r (own_register c k.sample)) e in (h.0, is_that.0 h.1),
      λ h. rw h.0 (is_that.1 h.1),
    )

-- what is one register's own is not the other's, and a refused one is no register's
not_own : (r other : Register) (c : Card) (k : Mark) → is_same other r ≡ false → (k.accepted ≡ true → is_own r c k ≡ true) → is_own other c k ≡ false
not_own r other c k apart h = by k.accepted (λ a. ((own_exactly r c k).0 (h a)).1)
  where
    by : (b : Bool) → (b ≡ true → r ≡ own_register c k.sample) → (b && is_same other (own_register c k.sample)) ≡ false
    by true g = subst (λ (q : Register). is_same other q ≡ false) (g refl) apart
    by false g = refl

-- of a list whose accepted samples are all one register's own, the other's sum and allowance stay as they begin
nothing_from : (r other : Register) (c : Card) (a : Fraction) (n : ℕ) (ks : List Mark) → is_same other r ≡ false → AllOwn r c ks →
    (sum_from other c a ks ≡ a) × (allowance_from other c n ks ≡ n)
nothing_from r other c a n [] apart h = (refl, refl)
nothing_from r other c a n (k ∷ ks) apart h = rw (not_own r other c k apart h.0) (nothing_from r other c a n ks apart h.1)

pub other_nothing : (r other : Register) (c : Card) (ks : List Mark) → is_same other r ≡ false → AllOwn r c ks →
    (sum_of other c ks ≡ nothing) × (allowance_of other c ks ≡ 0)
other_nothing r other c ks apart h = nothing_from r other c nothing 0 ks apart h
