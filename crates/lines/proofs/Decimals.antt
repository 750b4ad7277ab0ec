-- The text of a number: what it says is the number, and it is the only text that says it.
-- Assumes nothing.
use mathlib.Core.Path.{◌≡◌, refl, sym, ap, ◌∙◌}
use mathlib.Core.Bool.{Bool, true, false, not, ◌&&◌, ◌||◌, or-true}
use mathlib.Core.List.{List, [], ◌∷◌, ◌++◌, append_assoc, append-nil}
use Prim.Native.Nat.{ℕ, zero, suc, ◌+◌, ◌-◌, ◌*◌, ◌/◌, ◌%◌, ◌^◌, ◌≤◌, ◌<◌}
use native.Mathlib.Omega.{arith}
use native.Mathlib.Numerals.{add-one}
use native.Mathlib.Nat.{pow-suc, pow-le-pow_right, lt_of_lt_of_le, mul-le-mul_right}
use lib.Dec.{ltb, leb, eqb}
use lib.ListN.{length, get_or, length-append, get_or-append}
use borrow.Author.Tests.{ltb-true, ltb-false, leb-true, eqb-false, lt-ltb, le-ltb, le-leb, ne_eqb, not-true}
use Rattle.quantity.proofs.Conditions.{both}
use Rattle.lines.specs.Bytes.{digit_zero, digit_nine}
use Rattle.lines.specs.Number.{decimal_by, decimal, is_digit, are_digits, value_of, is_number, most_digits}

-- ---- digit by digit

-- enough places are enough
by_more : (f g n : ℕ) → n ≤ f → n ≤ g → decimal_by f n ≡ decimal_by g n
unfolding decimal_by
by_more zero zero n p q = refl
by_more zero (suc g) n p q =
    let t : ltb n 10 ≡ true = lt-ltb n 10 (omega arith) in
    let z : n % 10 ≡ n = omega arith in
    simp (t, z)
by_more (suc f) zero n p q =
    let t : ltb n 10 ≡ true = lt-ltb n 10 (omega arith) in
    let z : n % 10 ≡ n = omega arith in
    simp (t, z)
by_more (suc f) (suc g) n p q =
    elim (ltb n 10) as (λ b. ltb n 10 ≡ b → decimal_by (suc f) n ≡ decimal_by (suc g) n) [
      | true ↦ λ e. simp e
      | false ↦ λ e. let h : 10 ≤ n = ltb-false n 10 e in simp (e, by_more f g (n / 10) (omega arith) (omega arith))
    ] refl

pub decimal_one : (n : ℕ) → n < 10 → decimal n ≡ (digit_zero + n) ∷ []
unfolding decimal decimal_by
decimal_one n h = by_more n 10 n (omega arith) (omega arith) ∙ simp (lt-ltb n 10 h)

pub decimal_step : (n : ℕ) → 10 ≤ n → decimal n ≡ decimal (n / 10) ++ ((digit_zero + n % 10) ∷ [])
unfolding decimal decimal_by
decimal_step n h =
    by_more n (suc n) n (omega arith) (omega arith)
    ∙ simp (le-ltb n 10 h, by_more n (n / 10) (n / 10) (omega arith) (omega arith))

-- what holds of the digits, and of a number where it holds of the number without its last digit, holds of all
pub decimal_ind : (P : ℕ → Type 0) → ((n : ℕ) → n < 10 → P n) → ((n : ℕ) → 10 ≤ n → P (n / 10) → P n) → (n : ℕ) → P n
decimal_ind P one step n = below n n (omega arith)
  where
    below : (f n : ℕ) → n ≤ f → P n
    below zero n h = one n (omega arith)
    below (suc f) n h =
        elim (ltb n 10) as (λ b. ltb n 10 ≡ b → P n) [
          | true ↦ λ e. one n (ltb-true n 10 e)
          | false ↦ λ e. let k : 10 ≤ n = ltb-false n 10 e in step n k (below f (n / 10) (omega arith))
        ] refl

-- ---- digits

pub true_both : (a b : Bool) → a ≡ true → b ≡ true → (a && b) ≡ true
true_both true b p q = q
true_both false b p q = p

pub is_digit_lem : (b : ℕ) → digit_zero ≤ b → b ≤ digit_nine → is_digit b ≡ true
unfolding is_digit
is_digit_lem b p q = true_both _ _ (le-leb digit_zero b p) (le-leb b digit_nine q)

pub digit_low : (b : ℕ) → is_digit b ≡ true → digit_zero ≤ b
unfolding is_digit
digit_low b p = leb-true digit_zero b (both (leb digit_zero b) (leb b digit_nine) p).0

pub digit_high : (b : ℕ) → is_digit b ≡ true → b ≤ digit_nine
unfolding is_digit
digit_high b p = leb-true b digit_nine (both (leb digit_zero b) (leb b digit_nine) p).1

pub digits_snoc : (d : List ℕ) (b : ℕ) → are_digits d ≡ true → is_digit b ≡ true → are_digits (d ++ (b ∷ [])) ≡ true
unfolding are_digits
digits_snoc [] b p q = simp q
digits_snoc (x ∷ d) b p q =
    let h = both (is_digit x) (are_digits d) p in
    true_both (is_digit x) (are_digits (d ++ (b ∷ []))) h.0 (digits_snoc d b h.1 q)

pub decimal_digits : (n : ℕ) → are_digits (decimal n) ≡ true
unfolding are_digits
decimal_digits = decimal_ind (λ n. are_digits (decimal n) ≡ true) one step
  where
    one : (n : ℕ) → n < 10 → are_digits (decimal n) ≡ true
    one n h = simp (decimal_one n h, is_digit_lem (digit_zero + n) (omega arith) (omega arith))

    step : (n : ℕ) → 10 ≤ n → are_digits (decimal (n / 10)) ≡ true → are_digits (decimal n) ≡ true
    step n h ih = rw (decimal_step n h) (digits_snoc (decimal (n / 10)) (digit_zero + n % 10) ih (is_digit_lem (digit_zero + n % 10) (omega arith) (omega arith)))

-- ---- the value

in_front : (y p v b : ℕ) → y * (p * 10) + (v * 10 + b) ≡ (y * p + v) * 10 + b
in_front y p v b = omega arith

pub value_snoc : (d : List ℕ) (b : ℕ) → value_of (d ++ (b ∷ [])) ≡ value_of d * 10 + (b - digit_zero)
unfolding value_of
value_snoc [] b = omega arith
value_snoc (x ∷ d) b =
    let l : length (d ++ (b ∷ [])) ≡ suc (length d) = length-append d (b ∷ []) ∙ omega arith in
    rw (value_snoc d b, l, pow-suc 10 (length d)) (in_front (x - digit_zero) (10 ^ length d) (value_of d) (b - digit_zero))

pub value_decimal : (n : ℕ) → value_of (decimal n) ≡ n
unfolding value_of
value_decimal = decimal_ind (λ n. value_of (decimal n) ≡ n) one step
  where
    one : (n : ℕ) → n < 10 → value_of (decimal n) ≡ n
    one n h = simp (decimal_one n h) (omega arith)

    step : (n : ℕ) → 10 ≤ n → value_of (decimal (n / 10)) ≡ n / 10 → value_of (decimal n) ≡ n
    step n h ih = simp (decimal_step n h, value_snoc, ih) (omega arith)

-- digits say less than the power of ten of their count
more_digits : (y p v : ℕ) → y < 10 → v < p → y * p + v < p * 10
more_digits y p v h g =
    let k : y * p + p ≤ p * 10 = omega (arith, mul-le-mul_right p (le_of_lt_suc h)) in
    omega arith
  where
    le_of_lt_suc : y < 10 → y ≤ 9
    le_of_lt_suc h = omega arith

pub value_below : (d : List ℕ) → are_digits d ≡ true → value_of d < 10 ^ length d
unfolding are_digits value_of
value_below [] h = omega arith
value_below (b ∷ d) h =
    let p = both (is_digit b) (are_digits d) h in
    let hi : b ≤ digit_nine = digit_high b p.0 in
    let y : b - digit_zero < 10 = omega arith in
    rw (pow-suc 10 (length d)) (more_digits (b - digit_zero) (10 ^ length d) (value_of d) y (value_below d p.1))

-- ---- how many digits

pub decimal_pos : (n : ℕ) → 1 ≤ length (decimal n)
decimal_pos = decimal_ind (λ n. 1 ≤ length (decimal n)) (λ n h. simp (decimal_one n h) (omega arith)) (λ n h ih. simp (decimal_step n h, length-append) (omega arith))

pub decimal_short : (n k : ℕ) → 1 ≤ k → n < 10 ^ k → length (decimal n) ≤ k
decimal_short = decimal_ind (λ n. (k : ℕ) → 1 ≤ k → n < 10 ^ k → length (decimal n) ≤ k) one step
  where
    one : (n : ℕ) → n < 10 → (k : ℕ) → 1 ≤ k → n < 10 ^ k → length (decimal n) ≤ k
    one n h k g p = simp (decimal_one n h) g

    step : (n : ℕ) → 10 ≤ n → ((k : ℕ) → 1 ≤ k → n / 10 < 10 ^ k → length (decimal (n / 10)) ≤ k) → (k : ℕ) → 1 ≤ k → n < 10 ^ k → length (decimal n) ≤ k
    step n h ih zero g p = absurd (omega arith)
    step n h ih (suc zero) g p = let z : n < 10 = p in absurd (omega arith)
    step n h ih (suc (suc k)) g p =
        let q : n / 10 < 10 ^ suc k = omega (arith, pow-suc 10 (suc k)) in
        let r : length (decimal (n / 10)) ≤ suc k = ih (suc k) (omega arith) q in
        simp (decimal_step n h, length-append) (omega arith)

pub length_one : (n : ℕ) → n < 10 → length (decimal n) ≡ 1
length_one n h = simp (decimal_one n h)

-- by the powers of ten that a number lies between
pub power_length : (x k : ℕ) → 10 ^ k ≤ x → x < 10 * 10 ^ k → k + 1 ≡ length (decimal x)
power_length x k low high =
    let up : length (decimal x) ≤ k + 1 = decimal_short x (k + 1) (omega arith) (rw (add-one k, pow-suc 10 k) (omega arith)) in
    let below : x < 10 ^ length (decimal x) = rw (value_decimal x) at (value_below (decimal x) (decimal_digits x)) in
    let few : length (decimal x) ≤ k → ⊥ = λ h. let p : 10 ^ length (decimal x) ≤ 10 ^ k = pow-le-pow_right {n = 10} (omega arith) h in omega arith in
    omega (arith, up, few)

pub length_zero : (x : ℕ) → x ≡ 0 → 1 ≡ length (decimal x)
length_zero x h = sym (length_one x (omega arith))

-- for `width`
pub ruleset by_power = (power_length, length_zero)

-- no leading zero
decimal_lead : (n : ℕ) → 1 ≤ n → get_or (decimal n) 0 0 ≡ digit_zero → ⊥
decimal_lead = decimal_ind (λ n. 1 ≤ n → get_or (decimal n) 0 0 ≡ digit_zero → ⊥) one step
  where
    one : (n : ℕ) → n < 10 → 1 ≤ n → get_or (decimal n) 0 0 ≡ digit_zero → ⊥
    one n h p e = let z : digit_zero + n ≡ digit_zero = simp (decimal_one n h) at e in omega arith

    step : (n : ℕ) → 10 ≤ n → (1 ≤ n / 10 → get_or (decimal (n / 10)) 0 0 ≡ digit_zero → ⊥) → 1 ≤ n → get_or (decimal n) 0 0 ≡ digit_zero → ⊥
    step n h ih p e =
        let first : get_or (decimal n) 0 0 ≡ get_or (decimal (n / 10)) 0 0 = rw (decimal_step n h) (get_or-append (decimal (n / 10)) _ 0 0 (decimal_pos (n / 10))) in
        ih (omega arith) (sym first ∙ e)

-- ---- the only text

pub decimal_is_number : (n : ℕ) → n < 10 ^ most_digits → is_number (decimal n) ≡ true
unfolding is_number
decimal_is_number n h =
    let p : length (decimal n) ≤ most_digits = decimal_short n most_digits (omega arith) h in
    simp (decimal_digits n, le-leb 1 (length (decimal n)) (decimal_pos n), le-leb (length (decimal n)) most_digits p)
    (elim (ltb n 10) as (λ b. ltb n 10 ≡ b → (eqb (length (decimal n)) 1 || not (eqb (get_or (decimal n) 0 0) digit_zero)) ≡ true) [
      | true ↦ λ e. simp (decimal_one n (ltb-true n 10 e))
      | false ↦ λ e. simp (ne_eqb (get_or (decimal n) 0 0) digit_zero (decimal_lead n (omega (arith, ltb-false n 10 e))), or-true)
    ] refl)

-- digits after a number, by the number so far
sofar : ℕ → List ℕ → ℕ
sofar v [] = v
sofar v (b ∷ d) = sofar (v * 10 + (b - digit_zero)) d

sofar_value : (v : ℕ) (d : List ℕ) → sofar v d ≡ v * 10 ^ length d + value_of d
unfolding sofar value_of
sofar_value v [] = omega arith
sofar_value v (b ∷ d) = sofar_value (v * 10 + (b - digit_zero)) d ∙ rw (pow-suc 10 (length d)) (next v (b - digit_zero) (10 ^ length d) (value_of d))
  where
    next : (v y p w : ℕ) → (v * 10 + y) * p + w ≡ v * (p * 10) + (y * p + w)
    next v y p w = omega arith

decimal_sofar : (v : ℕ) (d : List ℕ) → 1 ≤ v → are_digits d ≡ true → decimal (sofar v d) ≡ decimal v ++ d
unfolding sofar are_digits
decimal_sofar v [] h p = sym (append-nil (decimal v))
decimal_sofar v (b ∷ d) h p =
    let t = both (is_digit b) (are_digits d) p in
    let lo : digit_zero ≤ b = digit_low b t.0 in
    let hi : b ≤ digit_nine = digit_high b t.0 in
    let q : (v * 10 + (b - digit_zero)) / 10 ≡ v = omega arith in
    let r : digit_zero + (v * 10 + (b - digit_zero)) % 10 ≡ b = omega arith in
    decimal_sofar (v * 10 + (b - digit_zero)) d (omega arith) t.1
    ∙ simp (decimal_step (v * 10 + (b - digit_zero)) (omega arith), q, r, append_assoc)

pub number_decimal : (d : List ℕ) → is_number d ≡ true → decimal (value_of d) ≡ d
unfolding is_number are_digits value_of
number_decimal [] q = absurd (let z : ◌≡◌ {A = ℕ} 0 1 = cc q in omega arith)
number_decimal (b ∷ []) q =
    let p = (both (is_digit b) true (both (is_digit b && true) _ q).0).0 in
    let lo : digit_zero ≤ b = digit_low b p in
    let hi : b ≤ digit_nine = digit_high b p in
    let r : (b - digit_zero) * 10 ^ 0 + 0 ≡ b - digit_zero = omega arith in
    let s : digit_zero + (b - digit_zero) ≡ b = omega arith in
    rw r (simp (decimal_one (b - digit_zero) (omega arith), s))
number_decimal (b ∷ x ∷ d) q =
    let n : ℕ = length (b ∷ x ∷ d) in
    let t = both (are_digits (b ∷ x ∷ d)) (leb 1 n && (leb n most_digits && (eqb n 1 || not (eqb b digit_zero)))) q in
    let p = both (is_digit b) (are_digits (x ∷ d)) t.0 in
    let lo : digit_zero ≤ b = digit_low b p.0 in
    let hi : b ≤ digit_nine = digit_high b p.0 in
    let r : (eqb n 1 || not (eqb b digit_zero)) ≡ true = (both (leb n most_digits) _ (both (leb 1 n) _ t.1).1).1 in
    let s : not (eqb b digit_zero) ≡ true = simp (ne_eqb n 1 (λ e. omega arith)) at r in
    let ne : b ≡ digit_zero → ⊥ = eqb-false b digit_zero (not-true (eqb b digit_zero) s) in
    let k : 1 ≤ b - digit_zero = omega arith in
    let z : digit_zero + (b - digit_zero) ≡ b = omega arith in
    sym (ap decimal (sofar_value (b - digit_zero) (x ∷ d)))
    ∙ decimal_sofar (b - digit_zero) (x ∷ d) k p.1
    ∙ simp (decimal_one (b - digit_zero) (omega arith), z)

-- a number's text says a value of at most 18 digits
pub number_small : (d : List ℕ) → is_number d ≡ true → value_of d < 10 ^ most_digits
unfolding is_number
number_small d q =
    let t = both (are_digits d) _ q in
    let few : length d ≤ most_digits = leb-true (length d) most_digits (both (leb (length d) most_digits) _ (both (leb 1 (length d)) _ t.1).1).0 in
    lt_of_lt_of_le (value_below d t.0) (pow-le-pow_right {n = 10} (omega arith) few)
