-- What stores and lent parts make of a buffer, and of a text that is put into it.
-- Assumes nothing.
use mathlib.Core.Path.{◌≡◌, refl, sym, ap, ◌∙◌}
use mathlib.Core.List.{List, [], ◌∷◌, ◌++◌, append_assoc, append-nil}
use Prim.Native.Nat.{ℕ, ◌+◌, ◌-◌, ◌≤◌, ◌<◌}
use native.Mathlib.Omega.{arith}
use native.Mathlib.Numerals.{add-one}
use lib.ListN.{length, take, drop, set, take-append-drop, length-append, length-take, length-drop, drop_of_length-le}
use lib.Seq.{set_split, take_at, drop_at, drop-drop, length-take-le}
use Rattle.buffer.specs.Putting.{put_at}
use Rattle.buffer.specs.Front.{put_front}
use Rattle.buffer.proofs.Lent.{rest_all}

-- ---- a text put into a buffer at a position

-- a part that was lent from a position on comes back with a text at its front
pub lent_back : (xs : List ℕ) (at n : ℕ) (t ys : List ℕ) → at ≤ length xs → n ≡ length t → ys ≡ t ++ drop n (take (length xs - at) (drop at xs))
    → take at xs ++ (ys ++ drop (length xs - at) (drop at xs)) ≡ put_at xs at t
unfolding put_at
lent_back xs at n t ys h m e =
    let a : take (length xs - at) (drop at xs) ≡ drop at xs = rest_all xs at in
    let b : drop (length xs - at) (drop at xs) ≡ [] = drop_of_length-le (drop at xs) {i = length xs - at} (omega (arith, length-drop at xs)) in
    rw (b, append-nil, e, a, drop-drop, m)

-- the buffer from the position on, after a text was put there
pub put_from : (buf : List ℕ) (at : ℕ) (text : List ℕ) → at ≤ length buf → drop at (put_at buf at text) ≡ text ++ drop (at + length text) buf
unfolding put_at
put_from buf at text h = drop_at (take at buf) (text ++ drop (at + length text) buf) at (length-take-le at buf h)

pub length_put_at : (xs : List ℕ) (at : ℕ) (t : List ℕ) → at + length t ≤ length xs → length (put_at xs at t) ≡ length xs
unfolding put_at
length_put_at xs at t h = simp (length-append, length-drop, length-take) (omega arith)

-- one text after the other
pub put_at_more : (xs : List ℕ) (at k : ℕ) (t u : List ℕ) → k ≡ at + length t → k ≤ length xs → put_at (put_at xs at t) k u ≡ put_at xs at (t ++ u)
unfolding put_at
put_at_more xs at k t u e h =
    let p : List ℕ = take at xs ++ t in
    let l : length p ≡ k = simp (length-append, length-take) (omega arith) in
    let s : take at xs ++ (t ++ drop (at + length t) xs) ≡ p ++ drop k xs = sym (append_assoc (take at xs) t (drop (at + length t) xs)) ∙ rw e in
    let n : k + length u ≡ at + (length t + length u) = omega arith in
    let d : drop (k + length u) (p ++ drop k xs) ≡ drop (at + (length t + length u)) xs =
    sym (drop-drop (length u) k (p ++ drop k xs)) ∙ ap (drop (length u)) (drop_at p (drop k xs) k l) ∙ drop-drop (length u) k xs ∙ ap (λ (i : ℕ). drop i xs) n in
    rw (s, take_at p (drop k xs) k l, d) (simp (length-append, append_assoc))

-- ---- a text put at the front

pub front_at : (xs t : List ℕ) → put_at xs 0 t ≡ put_front xs t
unfolding put_at
front_at xs t = let z : 0 + length t ≡ length t = omega arith in ap (λ (n : ℕ). t ++ drop n xs) z

pub length_front : (xs t : List ℕ) → length t ≤ length xs → length (put_front xs t) ≡ length xs
length_front xs t h = simp (length-append, length-drop) (omega arith)

-- the text t was put at the front of xs, which made ys, and k is the position after it
pub record Wrote (xs t ys : List ℕ) (k : ℕ) : Type 0 where
  pub holds : ys ≡ put_front xs t
  pub next : k ≡ length t

pub wrote_none : (xs : List ℕ) → Wrote xs [] xs 0
wrote_none xs = record { holds = refl; next = refl }

module _ (xs t ys : List ℕ) (k : ℕ) (w : Wrote xs t ys k) (u : List ℕ) (room : length t + length u ≤ length xs) where
  pub wrote_length : length ys ≡ length xs
  wrote_length = ap length w.holds ∙ length_front xs t (omega arith)

  pub wrote_room : length u ≤ length (take (length ys - k) (drop k ys))
  wrote_room = rw rest_all (omega (arith, w.next, wrote_length, length-drop k ys))

  behind : put_at ys k u ≡ put_front xs (t ++ u)
  behind =
      ap (λ (l : List ℕ). put_at l k u) (w.holds ∙ sym (front_at xs t))
      ∙ put_at_more xs 0 k t u (omega (arith, w.next)) (omega (arith, w.next))
      ∙ front_at xs (t ++ u)

  -- one text more, put at the front of the part that was lent from there on
  pub wrote_more : (part : List ℕ) (r : ℕ) → r ≡ length u → part ≡ put_front (take (length ys - k) (drop k ys)) u
      → Wrote xs (t ++ u) (take k ys ++ (part ++ drop (length ys - k) (drop k ys))) (k + r)
  wrote_more part r e g = record {
    holds = lent_back ys k (length u) u part (omega (arith, w.next, wrote_length)) refl g ∙ behind;
    next = omega (arith, e, w.next, length-append t u);
  }

set_put_at : (xs : List ℕ) (at b : ℕ) → at < length xs → set xs at b ≡ put_at xs at (b ∷ [])
unfolding put_at
set_put_at xs at b h = set_split xs at b h ∙ rw add-one

-- a store
pub wrote_byte : (xs t ys : List ℕ) (k b : ℕ) → Wrote xs t ys k → length t + 1 ≤ length xs → Wrote xs (t ++ (b ∷ [])) (set ys k b) (k + 1)
wrote_byte xs t ys k b w room =
    let h : k < length ys = omega (arith, w.next, wrote_length xs t ys k w (b ∷ []) room) in
    record {
      holds = set_put_at ys k b h ∙ behind xs t ys k w (b ∷ []) room;
      next = omega (arith, w.next, length-append t (b ∷ []));
    }

-- ---- texts put one behind the other

-- Some texts of a whole were put, from the position at on, and made out of buf. The others, rest, are to be put from the position place on: that makes
-- of it what the whole would have made of buf.
pub record Left (buf : List ℕ) (at : ℕ) (whole out : List ℕ) (place : ℕ) (rest : List ℕ) : Type 0 where
  pub same : put_at out place rest ≡ put_at buf at whole
  pub ends : place + length rest ≡ at + length whole
  pub size : length out ≡ length buf

module _ (buf : List ℕ) (at : ℕ) (whole : List ℕ) where
  pub left_all : Left buf at whole buf at whole
  left_all = record { same = refl; ends = refl; size = refl }

  module _ (room : at + length whole ≤ length buf) (out : List ℕ) (place : ℕ) where
    -- there is room for the next one
    pub left_room : (t rest : List ℕ) → Left buf at whole out place (t ++ rest) → place + length t ≤ length out
    left_room t rest l = omega (arith, l.ends, l.size, room, length-append t rest)

    -- it is put
    pub left_less : (t rest : List ℕ) → Left buf at whole out place (t ++ rest) → (new : List ℕ) (next : ℕ) → new ≡ put_at out place t → next ≡ place + length t →
        Left buf at whole new next rest
    left_less t rest l new next e g =
        let fits = left_room t rest l in
        record {
          same = ap (λ (xs : List ℕ). put_at xs next rest) e ∙ put_at_more out place next t rest g (omega (arith, fits, g)) ∙ l.same;
          ends = omega (arith, l.ends, g, length-append t rest);
          size = ap length e ∙ length_put_at out place t fits ∙ l.size;
        }

    -- a byte is stored
    pub left_byte : (b : ℕ) (rest : List ℕ) → Left buf at whole out place (b ∷ rest) → Left buf at whole (set out place b) (place + 1) rest
    left_byte b rest l =
        left_less (b ∷ []) rest l (set out place b) (place + 1) (set_put_at out place b (omega (arith, left_room (b ∷ []) rest l))) refl

    -- and none is left
    pub left_none : Left buf at whole out place [] → (out ≡ put_at buf at whole) × (place ≡ at + length whole)
    unfolding put_at
    left_none l =
        let end : place ≡ at + length whole = omega (arith, l.ends) in
        let z : place + 0 ≡ place = omega arith in
        (sym (ap (λ (n : ℕ). take place out ++ drop n out) z ∙ take-append-drop place out) ∙ l.same, end)
