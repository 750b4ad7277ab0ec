-- The turns of the two loops over packed decimal: the one that writes from the first byte, and the one that reads from the last.
-- Assumes nothing.
use mathlib.Core.Path.{◌≡◌, ap, ◌∙◌}
use mathlib.Core.Bool.{true, false, or-true}
use mathlib.Core.List.{List, [], ◌∷◌, ◌++◌, append_assoc, append-nil, reverse}
use mathlib.Core.Logic.{◌⊎◌, inl, inr}
use Prim.Native.Nat.{ℕ, zero, suc, ◌+◌, ◌-◌, ◌*◌, ◌/◌, ◌%◌, ◌^◌, ◌≤◌, ◌<◌}
use native.Mathlib.Omega.{arith}
use native.Mathlib.Nat.{pow-le-pow_right}
use lib.ListN.{length, get_or, set, take, drop, length-drop, length-reverse}
use lib.Seq.{drop-cons, drop-length, take_all}
use borrow.Author.Tests.{lt-ltb, le-ltb}
use Rattle.std.proofs.lemmas.List.{take_more_set, get_or-reverse}
use Rattle.readout.specs.Packed.{digits_in, some_above_nine, sum_from, packed, unpacked}
use Rattle.readout.proofs.PackedDecimal.{number_cons, packed_none, packed_step, unpacked_below}

-- ---- writing

-- one more byte is written, and a hundredth of the number is left
pub packed_more : (bs : List ℕ) (i x : ℕ) → i < length bs →
    take (i + 1) (set bs i (x % 10 + 16 * (x / 10 % 10))) ++ packed (length bs - (i + 1)) (x / 100) ≡ take i bs ++ packed (length bs - i) x
packed_more bs i x h =
    let e : length bs - i ≡ suc (length bs - (i + 1)) = omega arith in
    rw (e, packed_step, take_more_set) (append_assoc (take i bs) _ _)

-- at the end all bytes are written
pub packed_all : (bs : List ℕ) (i x : ℕ) → length bs ≤ i → take i bs ++ packed (length bs - i) x ≡ bs
packed_all bs i x h =
    let e : length bs - i ≡ 0 = omega arith in
    rw (e, packed_none, append-nil) (take_all i bs h)

-- ---- reading

-- the last k bytes hold decimal digits, which say x
pub record LastBytes (bs : List ℕ) (k x : ℕ) : Type 0 where
  pub within : k ≤ length bs
  pub decimal : some_above_nine (digits_in (drop (length bs - k) bs)) ≡ false
  pub says : x ≡ unpacked (drop (length bs - k) bs)

-- at first no byte is read
pub last_none : (bs : List ℕ) → LastBytes bs 0 0
unfolding digits_in sum_from
last_none bs =
    let e : drop (length bs - 0) bs ≡ [] = ap (λ n. drop n bs) (omega arith) ∙ drop-length bs in
    record { within = omega arith; decimal = rw e; says = rw e }

-- the byte before the last k, which is the next from the end
last_byte : (bs : List ℕ) (k b : ℕ) → (k < length (reverse bs)) × (b ≡ get_or (reverse bs) k b) →
    drop (length bs - (k + 1)) bs ≡ b ∷ drop (length bs - k) bs
last_byte bs k b t =
    let h : k < length bs = rw length-reverse at t.0 in
    let i : length bs - 1 - k ≡ length bs - (k + 1) = omega arith in
    let m : suc (length bs - (k + 1)) ≡ length bs - k = omega arith in
    let e : b ≡ get_or bs (length bs - (k + 1)) b = t.1 ∙ get_or-reverse bs k b h ∙ ap (λ j. get_or bs j b) i in
    drop-cons bs (length bs - (k + 1)) b (omega arith) ∙ rw (m, ← e)

-- a byte in front of others makes their number a hundred times as much, and adds what its two digits say
unpacked_cons : (b : ℕ) (bs : List ℕ) → unpacked (b ∷ bs) ≡ unpacked bs * 100 + (b / 16 * 10 + b % 16)
unfolding digits_in
unpacked_cons b bs = number_cons (b % 16) (b / 16 ∷ digits_in bs) ∙ rw number_cons (omega arith)

-- no digit above nine in a byte, nor in those after it
decimal_cons : (b : ℕ) (bs : List ℕ) → b / 16 ≤ 9 → b % 16 ≤ 9 → some_above_nine (digits_in bs) ≡ false →
    some_above_nine (digits_in (b ∷ bs)) ≡ false
unfolding digits_in
decimal_cons b bs high low h = simp (le-ltb 9 (b / 16) high, le-ltb 9 (b % 16) low, h)

-- a digit above nine in a byte
above_cons : (b : ℕ) (bs : List ℕ) → (9 < b / 16) ⊎ (9 < b % 16) → some_above_nine (digits_in (b ∷ bs)) ≡ true
unfolding digits_in
above_cons b bs (inl h) = simp (lt-ltb 9 (b / 16) h, or-true)
above_cons b bs (inr h) = simp (lt-ltb 9 (b % 16) h)

-- a digit above nine among the last bytes is one among all
above_drop : (n : ℕ) (bs : List ℕ) → some_above_nine (digits_in (drop n bs)) ≡ true → some_above_nine (digits_in bs) ≡ true
unfolding digits_in
above_drop zero bs h = h
above_drop (suc n) [] h = h
above_drop (suc n) (b ∷ bs) h = simp (above_drop n bs h, or-true)

-- a turn, which reads the byte b
module _ (bs : List ℕ) (k x b : ℕ) (p : LastBytes bs k x) (t : (k < length (reverse bs)) × (b ≡ get_or (reverse bs) k b)) where
  -- with a byte of two decimal digits
  pub last_more : b / 16 ≤ 9 → b % 16 ≤ 9 → LastBytes bs (k + 1) (x * 100 + (b / 16 * 10 + b % 16))
  last_more high low =
      let h : k < length bs = rw length-reverse at t.0 in
      record {
        within = omega arith;
        decimal = rw (last_byte bs k b t) (decimal_cons b _ high low p.decimal);
        says = rw (last_byte bs k b t, unpacked_cons b (drop (length bs - k) bs), p.says);
      }

  -- with a byte of which a digit is above nine
  pub last_above : (9 < b / 16) ⊎ (9 < b % 16) → some_above_nine (digits_in bs) ≡ true
  last_above o = above_drop (length bs - (k + 1)) bs (rw (last_byte bs k b t) (above_cons b _ o))

  -- of nine bytes at most, the digits read and two more are at most 18
  pub last_fits : length bs ≤ 9 → x * 100 + 99 < 10 ^ 18
  last_fits few =
      let h : k < length bs = rw length-reverse at t.0 in
      let l : length (drop (length bs - k) bs) ≡ k = omega (arith, length-drop (length bs - k) bs) in
      let below : x < 10 ^ (2 * k) = rw p.says (rw l at (unpacked_below (drop (length bs - k) bs) p.decimal)) in
      let most : 10 ^ (2 * k) ≤ 10 ^ 16 = pow-le-pow_right {n = 10} (omega arith) {j = 16} (omega arith) in
      omega arith
