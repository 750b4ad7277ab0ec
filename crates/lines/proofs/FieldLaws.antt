-- A comma and the number after it: what is written is read back, and what is read is what is written.
-- Assumes nothing.
use mathlib.Core.Path.{◌≡◌, refl, sym, ap, ◌∙◌}
use mathlib.Core.Bool.{true, false}
use mathlib.Core.List.{List, [], ◌∷◌, ◌++◌, append-nil}
use Prim.Native.Nat.{ℕ, ◌+◌, ◌-◌, ◌^◌, ◌≤◌, ◌<◌}
use native.Mathlib.Omega.{arith}
use native.Mathlib.Numerals.{add-one}
use lib.Dec.{eqb}
use Rattle.std.proofs.Common.{Option, Some, None}
use lib.ListN.{length, get_or, take, drop, length-append}
use borrow.Author.Tests.{eq-eqb, ne_eqb, eqb-true}
use Rattle.quantity.proofs.Conditions.{both}
use Rattle.buffer.proofs.Lent.{rest_all}
use Rattle.lines.specs.Bytes.{comma}
use Rattle.lines.specs.Number.{decimal, is_digit, are_digits, value_of, is_number, most_digits}
use Rattle.lines.specs.Inside.Parts.{found, digits_at, number_at, one_more, field_at}
use Rattle.lines.specs.declared.number.Number.{Number}
use Rattle.lines.proofs.Decimals.{decimal_digits, decimal_is_number, value_decimal, number_decimal, number_small}

-- ---- by the first byte

pub field_none : (bs : List ℕ) → length bs ≡ 0 → None ≡ field_at bs
unfolding field_at
field_none [] h = refl
field_none (b ∷ bs) h = absurd (omega arith)

pub field_other : (bs : List ℕ) → (get_or bs 0 0 ≡ comma → ⊥) → None ≡ field_at bs
unfolding field_at
field_other [] h = refl
field_other (b ∷ bs) h = simp (ne_eqb b comma h)

pub field_comma : (bs : List ℕ) → get_or bs 0 0 ≡ comma → field_at bs ≡ one_more (number_at (drop 1 bs))
unfolding field_at
field_comma [] h = absurd (let z : ◌≡◌ {A = ℕ} 0 comma = h in omega arith)
field_comma (b ∷ bs) h = simp (eq-eqb b comma h)

-- after the comma all the rest was lent on, to what read a number there or none
module _ (bs : List ℕ) (h : get_or bs 0 0 ≡ comma) (f : Option Number) (e : f ≡ number_at (take (length bs - 1) (drop 1 bs))) where
  field_of : field_at bs ≡ one_more f
  field_of = field_comma bs h ∙ ap one_more (sym (e ∙ ap number_at (rest_all bs 1)))

  pub field_number : (x : Number) → f ≡ Some x → found x.value (x.size + 1) ≡ field_at bs
  unfolding one_more
  field_number x k = sym (field_of ∙ ap one_more k)

  pub field_missing : f ≡ None → None ≡ field_at bs
  unfolding one_more
  field_missing k = sym (field_of ∙ ap one_more k)

-- ---- a number

-- what was found is one number, of one size
value_in : Option Number → ℕ
value_in (Some x) = x.value
value_in None = 0

size_in : Option Number → ℕ
size_in (Some x) = x.size
size_in None = 0

pub found_value : (v w n m : ℕ) → found v n ≡ found w m → v ≡ w
unfolding value_in
found_value v w n m e = ap value_in e

pub found_size : (v w n m : ℕ) → found v n ≡ found w m → n ≡ m
unfolding size_in
found_size v w n m e = ap size_in e

-- digits go on with the digits after them
digits_at_after : (d rest : List ℕ) → are_digits d ≡ true → digits_at (d ++ rest) ≡ d ++ digits_at rest
unfolding are_digits digits_at
digits_at_after [] rest p = refl
digits_at_after (b ∷ d) rest p =
    let h = both (is_digit b) (are_digits d) p in
    simp (h.0, digits_at_after d rest h.1)

digits_at_front : (bs : List ℕ) → bs ≡ digits_at bs ++ drop (length (digits_at bs)) bs
unfolding digits_at
digits_at_front [] = refl
digits_at_front (b ∷ bs) =
    elim (is_digit b) as (λ t. is_digit b ≡ t → b ∷ bs ≡ digits_at (b ∷ bs) ++ drop (length (digits_at (b ∷ bs))) (b ∷ bs)) [
      | true ↦ λ e. simp e (ap (λ (r : List ℕ). b ∷ r) (digits_at_front bs))
      | false ↦ λ e. simp e
    ] refl

number_back : (v : ℕ) (rest : List ℕ) → v < 10 ^ most_digits → digits_at rest ≡ [] → number_at (decimal v ++ rest) ≡ found v (length (decimal v))
unfolding number_at
number_back v rest h e =
    let r : digits_at (decimal v ++ rest) ≡ decimal v =
    digits_at_after (decimal v) rest (decimal_digits v) ∙ ap (λ (l : List ℕ). decimal v ++ l) e ∙ append-nil (decimal v) in
    simp (r, decimal_is_number v h, value_decimal v)

-- what `number_at` answers
pub record IsNumber (bs : List ℕ) (v n : ℕ) : Type 0 where
  pub small : v < 10 ^ most_digits
  pub counted : n ≡ length (decimal v)
  pub front : bs ≡ decimal v ++ drop n bs

number_forth : (bs : List ℕ) (v n : ℕ) → number_at bs ≡ found v n → IsNumber bs v n
unfolding number_at
number_forth bs v n h =
    elim (is_number (digits_at bs)) as (λ t. is_number (digits_at bs) ≡ t → IsNumber bs v n) [
      | true ↦ λ t.
          let g : found (value_of (digits_at bs)) (length (digits_at bs)) ≡ found v n = simp t at h in
          let a : value_of (digits_at bs) ≡ v = found_value _ _ _ _ g in
          let l : length (digits_at bs) ≡ n = found_size _ _ _ _ g in
          let d : decimal v ≡ digits_at bs = ap decimal (sym a) ∙ number_decimal (digits_at bs) t in
          record {
            small = rw a at (number_small (digits_at bs) t);
            counted = sym l ∙ ap length (sym d);
            front = rw (d, ← l) (digits_at_front bs);
          }
      | false ↦ λ t.
          let g : None ≡ found v n = simp t at h in
          absurd (let z : ◌≡◌ {A = ℕ} 0 1 = cc in omega arith)
    ] refl

-- ---- a field

-- LAW: what is written is read back
pub field_back : (v : ℕ) (rest : List ℕ) → v < 10 ^ most_digits → digits_at rest ≡ [] → field_at (comma ∷ (decimal v ++ rest)) ≡ found v (length (decimal v) + 1)
unfolding one_more
field_back v rest h e = field_comma (comma ∷ (decimal v ++ rest)) refl ∙ rw (number_back v rest h e)

-- LAW: what is read is what is written
pub record IsField (bs : List ℕ) (v n : ℕ) : Type 0 where
  pub small : v < 10 ^ most_digits
  pub counted : n ≡ length (decimal v) + 1
  pub front : bs ≡ comma ∷ (decimal v ++ drop n bs)

pub field_forth : (bs : List ℕ) (v n : ℕ) → field_at bs ≡ found v n → IsField bs v n
unfolding field_at one_more
field_forth [] v n h = absurd (let z : ◌≡◌ {A = ℕ} 0 1 = cc h in omega arith)
field_forth (b ∷ bs) v n h =
    elim (eqb b comma) as (λ t. eqb b comma ≡ t → IsField (b ∷ bs) v n) [
      | true ↦ λ t. after t (number_at bs) refl (simp t at h)
      | false ↦ λ t.
          let g : None ≡ found v n = simp t at h in
          absurd (let z : ◌≡◌ {A = ℕ} 0 1 = cc in omega arith)
    ] refl
  where
    after : eqb b comma ≡ true → (f : Option Number) → number_at bs ≡ f → one_more f ≡ found v n → IsField (b ∷ bs) v n
    after t (Some x) e g =
        let w : ℕ = x.value in
        let m : ℕ = x.size in
        let a : w ≡ v = found_value _ _ _ _ g in
        let l : m + 1 ≡ n = found_size _ _ _ _ g in
        let k = number_forth bs w m e in
        let f : bs ≡ decimal w ++ drop m bs = k.front in
        let d : drop n (b ∷ bs) ≡ drop m bs = rw (← l, add-one) in
        record {
          small = rw a at k.small;
          counted = sym l ∙ ap (λ (i : ℕ). i + 1) k.counted ∙ rw a;
          front = rw (d, ← a) (rw (eqb-true b comma t) (ap (λ (r : List ℕ). comma ∷ r) f));
        }
    after t None e g = absurd (let z : ◌≡◌ {A = ℕ} 0 1 = cc g in omega arith)

-- a number's digits are within the text
pub number_within : (bs : List ℕ) (v n : ℕ) → number_at bs ≡ found v n → n ≤ length bs
number_within bs v n h =
    let k = number_forth bs v n h in
    omega (arith, k.counted, ap length k.front ∙ length-append (decimal v) (drop n bs))

-- for `read_field`
pub ruleset by_front = (field_none, field_other, field_number, field_missing, number_within)
