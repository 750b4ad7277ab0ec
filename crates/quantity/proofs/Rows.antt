-- Laws of `first_of`: how code takes the rows, what it means that none applies, and rows in two parts; and a refusal that a `?` passes on.
-- Assumes nothing.
use mathlib.Core.Path.{◌≡◌, refl, sym, ap, ◌∙◌, subst}
use Rattle.std.proofs.Common.{length, get_or, drop}
use mathlib.Core.List.{List, [], ◌∷◌, ◌++◌}
use Rattle.std.proofs.lemmas.List.{at_drop_more, at_drop_all}
use mathlib.Core.Bool.{Bool, true, false, cond}
use Prim.Native.Nat.{ℕ, ◌+◌, ◌<◌, ◌≤◌}
use Rattle.std.specs.Prelude.{Result, Ok, Err}
use Rattle.std.specs.Result.{result_and, IsErrAnd}
use Rattle.std.proofs.lemmas.Result.{err_from_is_err_and}
use Rattle.quantity.specs.Refusals.{number_of, refusal_number, first_of, first_number, NoneApplies}
use Rattle.quantity.specs.Theorems.{RefusesNothing}
use Rattle.quantity.specs.declared.refusal.Refusal.{Refusal}
use Rattle.quantity.specs.declared.refusal.Row.{Row}

-- what no refusal says of the first row and of the others
passes : (b : Bool) (n : Refusal) (o : Result Unit Refusal) → cond b (Err n) o ≡ Ok tt → (b ≡ false) × (o ≡ Ok tt)
passes true n o e = absurd cc
passes false n o e = (refl, e)

pub none_applies : (rs : List Row) → first_of rs ≡ Ok tt → NoneApplies rs
unfolding first_of
none_applies [] e = tt
none_applies (r ∷ rs) e =
    let p = passes r.condition r.refusal (first_of rs) e in
    (p.0, none_applies rs p.1)

pub no_refusal : (rs : List Row) → NoneApplies rs → first_of rs ≡ Ok tt
unfolding first_of
no_refusal [] h = refl
no_refusal (r ∷ rs) h = rw h.0 (no_refusal rs h.1)

pub refuses_nothing : (rs : List Row) (o : Result Unit Refusal) → o ≡ first_of rs → RefusesNothing rs o
refuses_nothing rs o e = (λ h. none_applies rs (sym e ∙ h), λ h. e ∙ no_refusal rs h)

-- the number of what rows answer is the number that they give
number_by : (b : Bool) (r : Refusal) (o : Result Unit Refusal) → refusal_number (cond b (Err r) o) ≡ cond b (number_of r) (refusal_number o)
unfolding refusal_number
number_by true r o = refl
number_by false r o = refl

pub first_number_lem : (rs : List Row) → refusal_number (first_of rs) ≡ first_number rs
unfolding first_of first_number refusal_number
first_number_lem [] = refl
first_number_lem (r ∷ rs) = number_by r.condition r.refusal (first_of rs) ∙ ap (cond r.condition (number_of r.refusal)) (first_number_lem rs)

-- and so of an answer that is a value where they refuse nothing
without_value : {A : Type 0} (x : Result A Refusal) → refusal_number x ≡ refusal_number (result_and x (Ok (tt {0})))
unfolding refusal_number
without_value (Ok a) = refl
without_value (Err r) = refl

pub answer_number : {A : Type 0} (x : Result A Refusal) (rs : List Row) → result_and x (Ok (tt {0})) ≡ first_of rs → refusal_number x ≡ first_number rs
answer_number x rs e = without_value x ∙ ap refusal_number e ∙ first_number_lem rs

-- an answer that is a value where the rows refuse nothing: the value is the one that follows, and the number is the rows'
pub answered : {A : Type 0} (o : Result Unit Refusal) (v k : A) → result_and o (Ok v) ≡ Ok k → (o ≡ Ok tt) × (v ≡ k)
answered (Err r) v k e = (cc, cc)
answered (Ok u) v k e = (refl, cc)

pub number_of_rows : {A : Type 0} (rs : List Row) (a : A) → refusal_number (result_and (first_of rs) (Ok a)) ≡ first_number rs
unfolding refusal_number
number_of_rows rs a = by (first_of rs) a ∙ first_number_lem rs
  where
    by : {A : Type 0} (o : Result Unit Refusal) (a : A) → refusal_number (result_and o (Ok a)) ≡ refusal_number o
    by (Err r) a = refl
    by (Ok u) a = refl

-- rows in two parts: the first part decides, or else the second
pub parts : (rs ss : List Row) → first_of (rs ++ ss) ≡ result_and (first_of rs) (first_of ss)
unfolding first_of
parts [] ss = refl
parts (r ∷ rs) ss = go r.condition (parts rs ss)
  where
    go : (b : Bool) → first_of (rs ++ ss) ≡ result_and (first_of rs) (first_of ss) →
        cond b (Err r.refusal) (first_of (rs ++ ss)) ≡ result_and (cond b (Err r.refusal) (first_of rs)) (first_of ss)
    go true h = refl
    go false h = h

pub none_of_parts : (rs ss : List Row) → NoneApplies (rs ++ ss) → NoneApplies rs × NoneApplies ss
none_of_parts [] ss h = (tt, h)
none_of_parts (r ∷ rs) ss h =
    let p = none_of_parts rs ss h.1 in
    ((h.0, p.0), p.1)

pub none_together : (rs ss : List Row) → NoneApplies rs → NoneApplies ss → NoneApplies (rs ++ ss)
none_together [] ss h g = g
none_together (r ∷ rs) ss h g = (h.0, none_together rs ss h.1 g)

-- a refusal is that of some row: what holds of each row's refusal holds of it
abbrev pub EachRefusal : (Refusal → Type 0) → List Row → Type 0
EachRefusal P [] = Unit {0}
EachRefusal P (r ∷ rs) = P r.refusal × EachRefusal P rs

one_of : (P : Refusal → Type 0) (b : Bool) (k n : Refusal) (o : Result Unit Refusal) → P k → (o ≡ Err n → P n) → cond b (Err k) o ≡ Err n → P n
one_of P true k n o p f e =
    let same : k ≡ n = cc in
    subst P same p
one_of P false k n o p f e = f e

pub of_some_row : (P : Refusal → Type 0) (rs : List Row) (n : Refusal) → EachRefusal P rs → first_of rs ≡ Err n → P n
unfolding first_of
of_some_row P [] n h e = absurd cc
of_some_row P (r ∷ rs) n h e = one_of P r.condition r.refusal n (first_of rs) h.0 (of_some_row P rs n h.1) e

-- the rows from one on, as code goes through them: one that applies decides; one that does not leaves it to those behind it; behind the last
-- there is no refusal
pub row_applies : (rs : List Row) (i : ℕ) (d : Row) → i < length rs → (get_or rs i d).condition ≡ true →
    Err (get_or rs i d).refusal ≡ first_of (drop i rs)
unfolding first_of
row_applies rs i d h e = rw (at_drop_more first_of rs i d h) (rw e refl)

pub row_passes : (rs : List Row) (i : ℕ) (d : Row) → i < length rs → (get_or rs i d).condition ≡ false →
    first_of (drop (i + 1) rs) ≡ first_of (drop i rs)
unfolding first_of
row_passes rs i d h e = rw (at_drop_more first_of rs i d h) (rw e refl)

pub rows_end : (rs : List Row) (i : ℕ) → length rs ≤ i → Ok tt ≡ first_of (drop i rs)
unfolding first_of
rows_end rs i h = rw (at_drop_all first_of rs i h) refl

-- a refusal that is passed on by a `?`
pub passed_on : {T : Type 0} (r : Result T Refusal) (e : Refusal) → IsErrAnd r (λ y. y ≡ e) → r ≡ Err e
passed_on r e h = let p = err_from_is_err_and r h in p.1 ∙ ap (λ (y : Refusal). Err y) p.2
