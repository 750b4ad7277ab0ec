-- The digits at the front of a text: what `number_at` is by the tests that the code makes, and the loop over the digits.
-- Assumes nothing.
use mathlib.Core.Path.{◌≡◌, refl, sym, ap, ◌∙◌}
use mathlib.Core.Bool.{Bool, true, false, not, ◌||◌, and-false, or-true}
use mathlib.Core.List.{List, [], ◌∷◌, ◌++◌, append_assoc, append-nil}
use mathlib.Core.Logic.{◌⊎◌, inl, inr, ⊎_elim}
use Prim.Native.Nat.{ℕ, suc, ◌+◌, ◌-◌, ◌*◌, ◌^◌, ◌≤◌, ◌<◌, min}
use native.Mathlib.Omega.{arith}
use native.Mathlib.Numerals.{add-one}
use native.Mathlib.Nat.{pow-le-pow_right, lt_of_lt_of_le}
use lib.Dec.{eqb}
use Rattle.std.proofs.Common.{None}
use lib.ListN.{length, get_or, take, drop, length-take, drop_of_length-le}
use lib.Seq.{drop-cons, get_or-take, take-suc, take_at, take_all, length-take-le}
use borrow.Author.Tests.{le-leb, lt-leb, eq-eqb, ne_eqb, eqb-true, eqb-false}
use Rattle.std.specs.Char.{is_ascii_digit}
use Rattle.lines.specs.Bytes.{digit_zero}
use Rattle.lines.specs.Number.{is_digit, are_digits, value_of, most_digits, is_number}
use Rattle.lines.specs.Inside.Parts.{found, digits_at, number_at, looked_at, Digits}
use Rattle.lines.proofs.Decimals.{digits_snoc, value_snoc, value_below}

-- ---- by the tests

pub digits_at_digits : (bs : List ℕ) → are_digits (digits_at bs) ≡ true
unfolding are_digits digits_at
digits_at_digits [] = refl
digits_at_digits (b ∷ bs) =
    elim (is_digit b) as (λ t. is_digit b ≡ t → are_digits (digits_at (b ∷ bs)) ≡ true) [
      | true ↦ λ e. simp (e, digits_at_digits bs)
      | false ↦ λ e. simp e
    ] refl

digits_at_first : (bs : List ℕ) → 1 ≤ length (digits_at bs) → get_or (digits_at bs) 0 0 ≡ get_or bs 0 0
unfolding digits_at
digits_at_first [] h = refl
digits_at_first (b ∷ bs) h =
    elim (is_digit b) as (λ t. is_digit b ≡ t → get_or (digits_at (b ∷ bs)) 0 0 ≡ b) [
      | true ↦ λ e. simp e
      | false ↦ λ e. let z : 1 ≤ 0 = simp e at h in absurd (omega arith)
    ] refl

pub digits_at_within : (bs : List ℕ) → length (digits_at bs) ≤ length bs
unfolding digits_at
digits_at_within [] = omega arith
digits_at_within (b ∷ bs) =
    elim (is_digit b) as (λ t. is_digit b ≡ t → length (digits_at (b ∷ bs)) ≤ suc (length bs)) [
      | true ↦ λ e. simp e (omega (arith, digits_at_within bs))
      | false ↦ λ e. simp e (omega arith)
    ] refl

module _ (bs : List ℕ) where
  number_none : length (digits_at bs) ≡ 0 → number_at bs ≡ None
  unfolding number_at is_number
  number_none h = simp (lt-leb 1 (length (digits_at bs)) (omega arith), and-false)

  number_long : most_digits < length (digits_at bs) → number_at bs ≡ None
  unfolding number_at is_number
  number_long h = simp (lt-leb (length (digits_at bs)) most_digits h, and-false)

  number_lead : 1 < length (digits_at bs) → get_or bs 0 0 ≡ digit_zero → number_at bs ≡ None
  unfolding number_at is_number
  number_lead h e =
      simp (ne_eqb (length (digits_at bs)) 1 (λ k. omega arith), digits_at_first bs (omega arith), eq-eqb (get_or bs 0 0) digit_zero e, and-false)

  number_some : 1 ≤ length (digits_at bs) → length (digits_at bs) ≤ most_digits → (length (digits_at bs) ≡ 1) ⊎ (get_or bs 0 0 ≡ digit_zero → ⊥) → number_at bs ≡ found (value_of (digits_at bs)) (length (digits_at bs))
  unfolding number_at is_number
  number_some p q o =
      let c : (eqb (length (digits_at bs)) 1 || not (eqb (get_or (digits_at bs) 0 0) digit_zero)) ≡ true =
      ⊎_elim (λ k. simp (eq-eqb (length (digits_at bs)) 1 k))
      (λ k. simp (digits_at_first bs p, ne_eqb (get_or bs 0 0) digit_zero k, or-true)) o in
      simp (digits_at_digits bs, le-leb 1 (length (digits_at bs)) p, le-leb (length (digits_at bs)) most_digits q, c)

-- the same by the digits that are looked at
module _ (bs : List ℕ) where
  looked_long : length (take looked_at (digits_at bs)) ≡ min looked_at (length (digits_at bs))
  looked_long = length-take looked_at (digits_at bs)

  pub digits_within : 0 < length (take looked_at (digits_at bs)) → 0 < length bs
  digits_within h = omega (arith, looked_long, digits_at_within bs)

  pub digits_none : length (take looked_at (digits_at bs)) ≡ 0 → None ≡ number_at bs
  digits_none h = sym (number_none bs (omega (arith, looked_long)))

  pub digits_long : most_digits < length (take looked_at (digits_at bs)) → None ≡ number_at bs
  digits_long h = sym (number_long bs (omega (arith, looked_long)))

  pub digits_lead : 1 < length (take looked_at (digits_at bs)) → get_or bs 0 0 ≡ digit_zero → None ≡ number_at bs
  digits_lead h e = sym (number_lead bs (omega (arith, looked_long)) e)

  module _ (v n : ℕ) (s : v ≡ value_of (take looked_at (digits_at bs))) (c : n ≡ length (take looked_at (digits_at bs))) (few : n ≤ most_digits) where
    digits_some : 1 ≤ n → (n ≤ 1) ⊎ (get_or bs 0 0 ≡ digit_zero → ⊥) → found v n ≡ number_at bs
    digits_some h o =
        let l : n ≡ length (digits_at bs) = omega (arith, looked_long) in
        let whole : v ≡ value_of (digits_at bs) = s ∙ ap value_of (take_all looked_at (digits_at bs) (omega arith)) in
        rw (l, whole) (sym (number_some bs (omega arith) (omega arith) (⊎_elim (λ k. inl (omega arith)) (λ k. inr k) o)))

    pub digits_one : n ≡ 1 → found v n ≡ number_at bs
    digits_one h = digits_some (omega arith) (inl (omega arith))

    pub digits_unled : 1 ≤ n → (get_or bs 0 0 ≡ digit_zero → ⊥) → found v n ≡ number_at bs
    digits_unled h g = digits_some h (inr g)

-- for `checked_number`
pub ruleset by_digits = (digits_within, digits_none, digits_long, digits_lead, digits_one, digits_unled)

-- ---- a turn of the loop

-- the first n bytes are digits, which say v
pub record PassedDigits (bs : List ℕ) (v n : ℕ) : Type 0 where
  pub within : n ≤ length bs
  pub digits : are_digits (take n bs) ≡ true
  pub says : v ≡ value_of (take n bs)
  pub goes_on : digits_at bs ≡ take n bs ++ digits_at (drop n bs)

pub passed_none : (bs : List ℕ) → PassedDigits bs 0 0
unfolding are_digits value_of
passed_none bs = record { within = omega arith; digits = refl; says = refl; goes_on = refl }

module _ (bs : List ℕ) (v n : ℕ) (p : PassedDigits bs v n) where
  -- n digits say less than 10 ^ n
  pub passed_small : v < 10 ^ n
  passed_small =
      let l : length (take n bs) ≡ n = length-take-le n bs p.within in
      rw p.says (rw l at (value_below (take n bs) p.digits))

  pub passed_fits : n < looked_at → v < 10 ^ most_digits
  passed_fits h = lt_of_lt_of_le passed_small (pow-le-pow_right {n = 10} (omega arith) {j = most_digits} (few h))
    where
      few : n < looked_at → n ≤ most_digits
      few h = omega arith

  pub passed_more : n < length bs → is_digit (get_or bs n 0) ≡ true → PassedDigits bs (v * 10 + (get_or bs n 0 - digit_zero)) (n + 1)
  unfolding digits_at
  passed_more h d =
      let t : take (n + 1) bs ≡ take n bs ++ (get_or bs n 0 ∷ []) = rw add-one (take-suc bs n 0 h) in
      let r : digits_at (drop n bs) ≡ get_or bs n 0 ∷ digits_at (drop (n + 1) bs) = rw (add-one, drop-cons bs n 0 h) (simp d) in
      record {
        within = omega arith;
        digits = rw t (digits_snoc (take n bs) (get_or bs n 0) p.digits d);
        says = rw (t, value_snoc (take n bs) (get_or bs n 0), p.says);
        goes_on = p.goes_on ∙ rw (r, t) (sym (append_assoc (take n bs) (get_or bs n 0 ∷ []) (digits_at (drop (n + 1) bs))));
      }

  -- the digits end, or so many are looked at
  pub passed_end : n ≤ looked_at → (n ≡ looked_at) ⊎ (digits_at (drop n bs) ≡ []) → Digits bs v n
  passed_end h o =
      let l : length (take n bs) ≡ n = length-take-le n bs p.within in
      let e : take looked_at (digits_at bs) ≡ take n bs = ⊎_elim (enough l) (whole h l) o in
      record { counted = rw e (sym l); says = rw e p.says }
    where
      enough : length (take n bs) ≡ n → n ≡ looked_at → take looked_at (digits_at bs) ≡ take n bs
      enough l k = ap (take looked_at) p.goes_on ∙ take_at (take n bs) (digits_at (drop n bs)) looked_at (l ∙ k)

      whole : n ≤ looked_at → length (take n bs) ≡ n → digits_at (drop n bs) ≡ [] → take looked_at (digits_at bs) ≡ take n bs
      whole h l k =
          ap (take looked_at) (p.goes_on ∙ ap (λ (r : List ℕ). take n bs ++ r) k ∙ append-nil (take n bs))
          ∙ take_all looked_at (take n bs) (omega arith)

  pub ends_at : n < length bs → is_digit (get_or bs n 0) ≡ false → digits_at (drop n bs) ≡ []
  unfolding digits_at
  ends_at h d = rw (drop-cons bs n 0) (simp d)

  pub ends_with : length bs ≤ n → digits_at (drop n bs) ≡ []
  unfolding digits_at
  ends_with h = rw (drop_of_length-le bs h)

-- the same for the bytes that are looked at, m of them
module _ (bs : List ℕ) (m v n : ℕ) (few : m ≡ min (length bs) looked_at) (p : PassedDigits bs v n) where
  looked_many : length (take m bs) ≡ m
  looked_many = omega (arith, length-take m bs)

  module _ (h : n < length (take m bs)) where
    same_byte : get_or (take m bs) n 0 ≡ get_or bs n 0
    same_byte = let k : n < m = omega (arith, looked_many) in get_or-take m bs n 0 k

    same_digit : is_ascii_digit (get_or (take m bs) n 0) ≡ is_digit (get_or bs n 0)
    unfolding is_digit
    same_digit = ap is_ascii_digit same_byte

    pub looked_fits : v < 10 ^ most_digits
    looked_fits = passed_fits bs v n p (omega (arith, looked_many))

    pub looked_more : is_ascii_digit (get_or (take m bs) n 0) ≡ true → PassedDigits bs (v * 10 + (get_or (take m bs) n 0 - digit_zero)) (n + 1)
    looked_more d = rw same_byte (passed_more bs v n p (omega (arith, looked_many)) (sym same_digit ∙ d))

    pub looked_end : is_ascii_digit (get_or (take m bs) n 0) ≡ false → Digits bs v n
    looked_end d = passed_end bs v n p (omega (arith, looked_many)) (inr (ends_at bs v n p (omega (arith, looked_many)) (sym same_digit ∙ d)))

  pub looked_all : n ≤ length (take m bs) → length (take m bs) ≤ n → Digits bs v m
  looked_all k h =
      let e : n ≡ m = omega (arith, looked_many) in
      let ends : n ≡ looked_at → Digits bs v n = λ a. passed_end bs v n p (omega arith) (inl a) in
      let whole : length bs ≤ n → Digits bs v n = λ a. passed_end bs v n p (omega arith) (inr (ends_with bs v n p a)) in
      rw (← e) (⊎_elim ends whole (which e))
    where
      which : n ≡ m → (n ≡ looked_at) ⊎ (length bs ≤ n)
      which e = by (eqb n looked_at) refl
        where
          by : (t : Bool) → eqb n looked_at ≡ t → (n ≡ looked_at) ⊎ (length bs ≤ n)
          by true g = inl (eqb-true n looked_at g)
          by false g = inr (let other : n ≡ looked_at → ⊥ = eqb-false n looked_at g in omega arith)

-- for `read_number`
pub ruleset looking = (passed_none, looked_fits, looked_more, looked_end, looked_all)
