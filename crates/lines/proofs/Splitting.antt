-- A line's bytes, split at its end and at its commas: joined fields are split again, and split bytes are joined again.
-- Assumes nothing.
use mathlib.Core.Path.{◌≡◌, refl, sym, ap, ◌∙◌}
use mathlib.Core.Bool.{Bool, true, false, cond, not, ◌&&◌, or-true}
use mathlib.Core.List.{List, [], ◌∷◌, ◌++◌, append_assoc, append-nil, map}
use Prim.Native.Nat.{ℕ, ◌+◌}
use native.Mathlib.Omega.{arith}
use native.Mathlib.Numerals.{add-one}
use lib.Dec.{eqb}
use lib.ListN.{length, get_or, drop}
use borrow.Author.Tests.{eqb-true, not-true}
use Rattle.quantity.proofs.Conditions.{both}
use Rattle.lines.specs.Bytes.{line_feed, comma}
use Rattle.lines.specs.Number.{decimal}
use Rattle.lines.specs.Line.{after_commas}
use Rattle.lines.specs.Reading.{until_end, is_ended, size_of, with_first, split}
use Rattle.lines.proofs.Decimals.{true_both}

-- one number more behind others
pub commas_snoc : (ns : List ℕ) (v : ℕ) → after_commas (map decimal (ns ++ (v ∷ []))) ≡ after_commas (map decimal ns) ++ (comma ∷ decimal v)
unfolding after_commas
commas_snoc [] v = ap (λ (l : List ℕ). comma ∷ l) (append-nil (decimal v))
commas_snoc (n ∷ ns) v = ap (λ (l : List ℕ). comma ∷ l) (rw (commas_snoc ns v) (sym (append_assoc (decimal n) (after_commas (map decimal ns)) (comma ∷ decimal v))))

-- the byte b is not among the bytes
unfoldable pub lacks : ℕ → List ℕ → Bool
lacks b [] = true
lacks b (x ∷ xs) = not (eqb x b) && lacks b xs

pub lacks_append : (b : ℕ) (xs ys : List ℕ) → lacks b xs ≡ true → lacks b ys ≡ true → lacks b (xs ++ ys) ≡ true
unfolding lacks
lacks_append b [] ys p q = q
lacks_append b (x ∷ xs) ys p q =
    let h = both (not (eqb x b)) (lacks b xs) p in
    true_both (not (eqb x b)) (lacks b (xs ++ ys)) h.0 (lacks_append b xs ys h.1 q)

-- and of none of the fields
abbrev pub EachLacks : ℕ → List (List ℕ) → Type 0
EachLacks b [] = Unit {0}
EachLacks b (f ∷ fs) = (lacks b f ≡ true) × EachLacks b fs

pub lacks_commas : (b : ℕ) (fs : List (List ℕ)) → eqb comma b ≡ false → EachLacks b fs → lacks b (after_commas fs) ≡ true
unfolding lacks after_commas
lacks_commas b [] c h = refl
lacks_commas b (f ∷ fs) c h = simp c (lacks_append b f (after_commas fs) h.0 (lacks_commas b fs c h.1))

-- ---- joined fields are split again

-- bytes without a comma stand in front of the first field
split_front : (p q g : List ℕ) (gs : List (List ℕ)) → lacks comma p ≡ true → split q ≡ g ∷ gs → split (p ++ q) ≡ (p ++ g) ∷ gs
unfolding lacks split with_first
split_front [] q g gs h e = e
split_front (b ∷ p) q g gs h e =
    let t = both (not (eqb b comma)) (lacks comma p) h in
    simp (not-true (eqb b comma) t.0, split_front p q g gs t.1 e)

pub split_joined : (f : List ℕ) (fs : List (List ℕ)) → lacks comma f ≡ true → EachLacks comma fs → split (f ++ after_commas fs) ≡ f ∷ fs
unfolding split after_commas
split_joined f [] h g = split_front f [] [] [] h refl ∙ ap (λ (x : List ℕ). x ∷ []) (append-nil f)
split_joined f (x ∷ fs) h g =
    split_front f (comma ∷ (x ++ after_commas fs)) [] (x ∷ fs) h (ap (λ (l : List (List ℕ)). [] ∷ l) (split_joined x fs g.0 g.1))
    ∙ ap (λ (y : List ℕ). y ∷ x ∷ fs) (append-nil f)

-- bytes without 0A, and 0A after them
module _ (rest : List ℕ) where
  pub until_end_lem : (p : List ℕ) → lacks line_feed p ≡ true → until_end (p ++ (line_feed ∷ rest)) ≡ p
  unfolding lacks until_end
  until_end_lem [] h = refl
  until_end_lem (b ∷ p) h =
      let t = both (not (eqb b line_feed)) (lacks line_feed p) h in
      simp (not-true (eqb b line_feed) t.0, until_end_lem p t.1)

  pub is_ended_lem : (p : List ℕ) → is_ended (p ++ (line_feed ∷ rest)) ≡ true
  unfolding is_ended
  is_ended_lem [] = refl
  is_ended_lem (b ∷ p) = simp (is_ended_lem p, or-true)

-- ---- split bytes are joined again

pub ended_bytes : (bs : List ℕ) → is_ended bs ≡ true → bs ≡ until_end bs ++ (line_feed ∷ drop (size_of bs) bs)
unfolding is_ended until_end size_of
ended_bytes [] h = absurd (let z : ◌≡◌ {A = ℕ} 0 1 = cc h in omega arith)
ended_bytes (b ∷ bs) h =
    elim (eqb b line_feed) as (λ t. eqb b line_feed ≡ t → b ∷ bs ≡ until_end (b ∷ bs) ++ (line_feed ∷ drop (length (until_end (b ∷ bs)) + 1) (b ∷ bs))) [
      | true ↦ λ e. simp e (ap (λ (x : ℕ). x ∷ bs) (eqb-true b line_feed e))
      | false ↦ λ e. simp (e, add-one) (ap (λ (l : List ℕ). b ∷ l) (simp add-one at (ended_bytes bs (simp e at h))))
    ] refl

-- there is a first field
pub data Parted : List (List ℕ) → Type 0 where
  parted : (f : List ℕ) (fs : List (List ℕ)) → Parted (f ∷ fs)

first_parted : (b : ℕ) (l : List (List ℕ)) → Parted (with_first b l)
unfolding with_first
first_parted b [] = parted _ _
first_parted b (f ∷ fs) = parted _ _

pub split_parted : (bs : List ℕ) → Parted (split bs)
unfolding split
split_parted [] = parted _ _
split_parted (b ∷ bs) = go (eqb b comma)
  where
    go : (t : Bool) → Parted (cond t ([] ∷ split bs) (with_first b (split bs)))
    go true = parted _ _
    go false = first_parted b (split bs)

-- fields, parted by commas
abbrev pub joined : List (List ℕ) → List ℕ
joined l = get_or l 0 [] ++ after_commas (drop 1 l)

joined_first : (b : ℕ) (l : List (List ℕ)) → Parted l → joined (with_first b l) ≡ b ∷ joined l
unfolding with_first
joined_first b l (parted f fs) = refl

joined_comma : (l : List (List ℕ)) → Parted l → joined ([] ∷ l) ≡ comma ∷ joined l
unfolding after_commas
joined_comma l (parted f fs) = refl

pub joined_split : (bs : List ℕ) → joined (split bs) ≡ bs
unfolding split after_commas
joined_split [] = refl
joined_split (b ∷ bs) =
    elim (eqb b comma) as (λ t. eqb b comma ≡ t → joined (split (b ∷ bs)) ≡ b ∷ bs) [
      | true ↦ λ e. simp e (joined_comma (split bs) (split_parted bs) ∙ rw (joined_split bs, eqb-true b comma e))
      | false ↦ λ e. simp e (joined_first b (split bs) (split_parted bs) ∙ rw (joined_split bs))
    ] refl

-- one field more than the fields after the first
pub length_parted : (l : List (List ℕ)) → Parted l → length l ≡ length (drop 1 l) + 1
length_parted l (parted f fs) = omega arith
