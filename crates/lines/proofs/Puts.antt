-- A number put behind a comma: its digits, the last one first, and a store.
-- Assumes nothing.
use mathlib.Core.Path.{◌≡◌, sym, ap, ◌∙◌}
use mathlib.Core.List.{List, [], ◌∷◌, ◌++◌, append-nil}
use Prim.Native.Nat.{ℕ, suc, ◌-◌, ◌/◌, ◌%◌, ◌≤◌, ◌<◌}
use native.Mathlib.Omega.{arith}
use lib.ListN.{length, take, drop, set, length-append}
use lib.Seq.{take_all, drop-length}
use Rattle.buffer.specs.Front.{put_front}
use Rattle.lines.specs.Bytes.{comma}
use Rattle.lines.specs.Number.{decimal}
use Rattle.lines.specs.Inside.Parts.{last_digits}
use Rattle.lines.proofs.Decimals.{decimal_ind, decimal_one, decimal_step}

-- ---- digits, the last one first

-- all the digits
pub all_digits : (n : ℕ) → last_digits (length (decimal n)) n ≡ decimal n
unfolding last_digits
all_digits = decimal_ind (λ n. last_digits (length (decimal n)) n ≡ decimal n) one step
  where
    one : (n : ℕ) → n < 10 → last_digits (length (decimal n)) n ≡ decimal n
    one n h = let z : n % 10 ≡ n = omega arith in simp (decimal_one n h, z)

    step : (n : ℕ) → 10 ≤ n → last_digits (length (decimal (n / 10))) (n / 10) ≡ decimal (n / 10) → last_digits (length (decimal n)) n ≡ decimal n
    step n h ih =
        let e : length (decimal n) ≡ suc (length (decimal (n / 10))) = simp (decimal_step n h, length-append) (omega arith) in
        rw (e, ih) (sym (decimal_step n h))

-- a part lent after its first byte comes back with the digits of x, and a comma is stored before them
pub put_field : (part ys : List ℕ) (w x : ℕ) → w ≡ length (decimal x) → w < length part → ys ≡ last_digits w x ++ drop w (take (length part - 1) (drop 1 part))
    → set (take 1 part ++ (ys ++ drop (length part - 1) (drop 1 part))) 0 comma ≡ put_front part (comma ∷ decimal x)
put_field [] ys w x m h e = absurd (omega arith)
put_field (p ∷ ps) ys w x m h e =
    let k : length (p ∷ ps) - 1 ≡ length ps = omega arith in
    let digits : last_digits w x ≡ decimal x = rw m (all_digits x) in
    let ys_is : ys ≡ decimal x ++ drop w ps = e ∙ rw (k, digits, take_all (length ps) ps (omega arith)) in
    let none : drop (length ps) ps ≡ [] = drop-length ps in
    ap (λ (l : List ℕ). comma ∷ l) (rw (k, none, append-nil) (ys_is ∙ rw m))
