-- Digits and the number that they say, and the bytes of packed decimal that hold them.
-- Assumes nothing.
use mathlib.Core.Path.{◌≡◌, refl, sym, ap, ◌∙◌}
use mathlib.Core.Bool.{false}
use mathlib.Core.List.{List, [], ◌∷◌}
use Prim.Native.Nat.{ℕ, zero, suc, ◌+◌, ◌*◌, ◌/◌, ◌%◌, ◌^◌, ◌≤◌, ◌<◌}
use native.Mathlib.Omega.{arith}
use native.Mathlib.Numerals.{add-one}
use native.Mathlib.Nat.{pow-suc}
use Rattle.std.proofs.Math.Nat.{div-div-eq-div-mul}
use lib.Dec.{ltb}
use lib.ListN.{length}
use borrow.Author.Tests.{ltb-false, le-ltb}
use Rattle.std.proofs.lemmas.Bool.{or_parts, or_from}
use Rattle.readout.specs.Packed.{digits_in, some_above_nine, sum_from, number_of_digits, digits_from, lowest_digits, paired, packed, unpacked}
use Rattle.readout.specs.Theorems.{DigitsAndNumber, BytesAndNumber}

-- ---- digits and their number

-- one place higher, digits count ten times as much
place_higher : (p : ℕ) (ds : List ℕ) → sum_from (p + 1) ds ≡ 10 * sum_from p ds
unfolding sum_from
place_higher p [] = omega arith
place_higher p (d ∷ ds) =
    let e : 10 ^ (p + 1) ≡ 10 ^ p * 10 = rw add-one (pow-suc 10 p) in
    rw (e, place_higher (p + 1) ds) (tens d (10 ^ p) (sum_from (p + 1) ds))
  where
    tens : (d p s : ℕ) → d * (p * 10) + 10 * s ≡ 10 * (d * p + s)
    tens d p s = omega arith

-- a digit in front of others makes their number ten times as much, and adds itself
pub number_cons : (d : ℕ) (ds : List ℕ) → number_of_digits (d ∷ ds) ≡ d + 10 * number_of_digits ds
unfolding sum_from
number_cons d ds = let h = place_higher 0 ds in omega arith

-- where no digit is above nine, the first is at most nine, and none of the others is above
digits_cons : (d : ℕ) (ds : List ℕ) → some_above_nine (d ∷ ds) ≡ false → (d ≤ 9) × (some_above_nine ds ≡ false)
digits_cons d ds h = let t = or_parts (ltb 9 d) (some_above_nine ds) h in (ltb-false 9 d t.0, t.1)

-- the digits one place higher are those of a tenth of the number
from_higher : (p n x : ℕ) → digits_from (p + 1) n x ≡ digits_from p n (x / 10)
unfolding digits_from
from_higher p zero x = refl
from_higher p (suc n) x =
    let e : 10 ^ (p + 1) ≡ 10 * 10 ^ p = rw add-one (pow-suc 10 p ∙ (omega arith)) in
    let d : x / 10 ^ (p + 1) ≡ x / 10 / 10 ^ p = rw e (sym (div-div-eq-div-mul x 10 (10 ^ p))) in
    rw (d, from_higher (p + 1) n x)

-- of a number's lowest digits the first is its last one, and the others are those of a tenth of it
lowest_step : (n x : ℕ) → lowest_digits (suc n) x ≡ x % 10 ∷ lowest_digits n (x / 10)
unfolding digits_from
lowest_step n x = let e : x / 10 ^ 0 ≡ x = omega arith in rw (e, from_higher 0 n x)

-- the n lowest digits are n digits
pub lowest_length : (n x : ℕ) → length (lowest_digits n x) ≡ n
unfolding digits_from
lowest_length zero x = refl
lowest_length (suc n) x = ap (λ (ds : List ℕ). length ds) (lowest_step n x) ∙ ap (λ m. suc m) (lowest_length n (x / 10))

-- none of a number's lowest digits is above nine
pub lowest_decimal : (n x : ℕ) → some_above_nine (lowest_digits n x) ≡ false
unfolding digits_from
lowest_decimal zero x = refl
lowest_decimal (suc n) x =
    ap some_above_nine (lowest_step n x)
    ∙ or_from (ltb 9 (x % 10)) (some_above_nine (lowest_digits n (x / 10))) (le-ltb 9 (x % 10) (omega arith)) (lowest_decimal n (x / 10))

-- a number below 10^n is that of its n lowest digits
pub lowest_number : (n x : ℕ) → x < 10 ^ n → number_of_digits (lowest_digits n x) ≡ x
unfolding digits_from sum_from
lowest_number zero x h = omega arith
lowest_number (suc n) x h =
    let e = pow-suc 10 n in
    let ih = lowest_number n (x / 10) (omega arith) in
    ap number_of_digits (lowest_step n x) ∙ number_cons (x % 10) (lowest_digits n (x / 10)) ∙ rw ih (omega arith)

-- n digits say less than 10^n
pub digits_below : (ds : List ℕ) → some_above_nine ds ≡ false → number_of_digits ds < 10 ^ length ds
unfolding sum_from
digits_below [] h = omega arith
digits_below (d ∷ ds) h =
    let t = digits_cons d ds h in
    let ih = digits_below ds t.1 in
    rw (number_cons d ds, pow-suc 10 (length ds)) (omega arith)

-- digits are the lowest of the number that they say
pub digits_lowest : (ds : List ℕ) → some_above_nine ds ≡ false → ds ≡ lowest_digits (length ds) (number_of_digits ds)
unfolding digits_from
digits_lowest [] h = refl
digits_lowest (d ∷ ds) h =
    let t = digits_cons d ds h in
    let e = number_cons d ds in
    let low : number_of_digits (d ∷ ds) % 10 ≡ d = omega arith in
    let rest : number_of_digits (d ∷ ds) / 10 ≡ number_of_digits ds = omega arith in
    rw (lowest_step, low, rest) (ap (λ es. d ∷ es) (digits_lowest ds t.1))

-- the theorem of digits
pub digits_and_number : DigitsAndNumber
digits_and_number n x ds = (to, from)
  where
    to : (length ds ≡ n) × (some_above_nine ds ≡ false) × (number_of_digits ds ≡ x) → (x < 10 ^ n) × (ds ≡ lowest_digits n x)
    to h = (rw (h.0, h.2) at (digits_below ds h.1), rw (h.0, h.2) at (digits_lowest ds h.1))

    from : (x < 10 ^ n) × (ds ≡ lowest_digits n x) → (length ds ≡ n) × (some_above_nine ds ≡ false) × (number_of_digits ds ≡ x)
    from h = rw h.1 (lowest_length n x, lowest_decimal n x, lowest_number n x h.0)

-- ---- bytes and their digits

-- no bytes hold nothing of a number
pub packed_none : (x : ℕ) → packed 0 x ≡ []
unfolding packed digits_from paired
packed_none x = refl

-- the first byte holds the two lowest digits, and the others a hundredth of the number
pub packed_step : (n x : ℕ) → packed (suc n) x ≡ (x % 10 + 16 * (x / 10 % 10)) ∷ packed n (x / 100)
unfolding packed paired
packed_step n x =
    let e : 2 * suc n ≡ suc (suc (2 * n)) = omega arith in
    let f : x / 10 / 10 ≡ x / 100 = omega arith in
    rw (e, lowest_step (suc (2 * n)) x, lowest_step (2 * n) (x / 10), f)

-- n bytes of a number are n bytes
pub packed_length : (n x : ℕ) → length (packed n x) ≡ n
packed_length zero x = rw packed_none
packed_length (suc n) x = rw packed_step (ap (λ m. suc m) (packed_length n (x / 100)))

-- n bytes of a number hold its 2 × n lowest digits
pub packed_digits : (n x : ℕ) → digits_in (packed n x) ≡ lowest_digits (2 * n) x
unfolding digits_from digits_in
packed_digits zero x = ap digits_in (packed_none x)
packed_digits (suc n) x =
    let e : 2 * suc n ≡ suc (suc (2 * n)) = omega arith in
    let f : x / 10 / 10 ≡ x / 100 = omega arith in
    let low : (x % 10 + 16 * (x / 10 % 10)) % 16 ≡ x % 10 = omega arith in
    let high : (x % 10 + 16 * (x / 10 % 10)) / 16 ≡ x / 10 % 10 = omega arith in
    rw (packed_step n x, e, lowest_step (suc (2 * n)) x, lowest_step (2 * n) (x / 10), f, low, high, packed_digits n (x / 100))

-- none of these is above nine
pub packed_decimal_digits : (n x : ℕ) → some_above_nine (digits_in (packed n x)) ≡ false
packed_decimal_digits n x = rw packed_digits (lowest_decimal (2 * n) x)

-- each byte holds two digits
pub digits_in_length : (bs : List ℕ) → length (digits_in bs) ≡ 2 * length bs
unfolding digits_in
digits_in_length [] = refl
digits_in_length (b ∷ bs) = let ih = digits_in_length bs in omega arith

-- the digits that bytes hold, put into bytes again, are the bytes
paired_digits : (bs : List ℕ) → paired (digits_in bs) ≡ bs
unfolding digits_in paired
paired_digits [] = refl
paired_digits (b ∷ bs) = let e : b % 16 + 16 * (b / 16) ≡ b = omega arith in rw (e, paired_digits bs)

-- the theorem of bytes
pub bytes_and_number : BytesAndNumber
unfolding packed
bytes_and_number n x bs = (to, from)
  where
    to : (length bs ≡ n) × (some_above_nine (digits_in bs) ≡ false) × (unpacked bs ≡ x) → (x < 10 ^ (2 * n)) × (bs ≡ packed n x)
    to h =
        let many : length (digits_in bs) ≡ 2 * n = rw (digits_in_length, h.0) in
        let t = (digits_and_number (2 * n) x (digits_in bs)).0 (many, h.1, h.2) in
        (t.0, sym (paired_digits bs) ∙ ap paired t.1)

    from : (x < 10 ^ (2 * n)) × (bs ≡ packed n x) → (length bs ≡ n) × (some_above_nine (digits_in bs) ≡ false) × (unpacked bs ≡ x)
    from h =
        let t = (digits_and_number (2 * n) x (digits_in bs)).1 (h.0, ap digits_in h.1 ∙ packed_digits n x) in
        (ap length h.1 ∙ packed_length n x, t.1, t.2)

-- n bytes of a number below 10^(2n) say that number
pub unpacked_packed : (n x : ℕ) → x < 10 ^ (2 * n) → unpacked (packed n x) ≡ x
unpacked_packed n x h = ((bytes_and_number n x (packed n x)).1 (h, refl)).2

-- n bytes of decimal digits are those of the number that they say
pub packed_unpacked : (n : ℕ) (bs : List ℕ) → length bs ≡ n → some_above_nine (digits_in bs) ≡ false → bs ≡ packed n (unpacked bs)
packed_unpacked n bs l h = ((bytes_and_number n (unpacked bs) bs).0 (l, h, refl)).1

-- n bytes of decimal digits say less than 10^(2n)
pub unpacked_below : (bs : List ℕ) → some_above_nine (digits_in bs) ≡ false → unpacked bs < 10 ^ (2 * length bs)
unpacked_below bs h = ((bytes_and_number (length bs) (unpacked bs) bs).0 (refl, h, refl)).0
