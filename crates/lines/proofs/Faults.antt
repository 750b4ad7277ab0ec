-- The shape of a line, found by going through it: which of 61 and 62 a line that is no line of its kind gets.
-- Assumes nothing.
use Rattle.std.proofs.Common.{Result, Ok, Err}
use mathlib.Core.Path.{◌≡◌, refl, sym, ap, ◌∙◌}
use mathlib.Core.Bool.{Bool, true, false, cond, not, ◌||◌, or-true}
use mathlib.Core.List.{List, [], ◌∷◌}
use Prim.Native.Nat.{ℕ, ◌+◌, ◌<◌, ◌≤◌}
use native.Mathlib.Omega.{arith}
use lib.Dec.{eqb}
use Rattle.std.proofs.Common.{Option, Some, None}
use Rattle.std.specs.Option.{unwrap_or}
use Rattle.std.proofs.lemmas.List.{at_drop_more, at_drop_all}
use lib.ListN.{length, get_or, drop}
use borrow.Author.Tests.{eq-eqb, ne_eqb}
use Rattle.quantity.specs.Refusals.{row, first_of}
use Rattle.quantity.specs.declared.refusal.Refusal.{Refusal}
use Rattle.quantity.specs.declared.refusal.Refusal.TheVariants as R
use Rattle.lines.specs.Bytes.{line_feed, comma}
use Rattle.lines.specs.Number.{some_long}
use Rattle.lines.specs.Reading.{same_bytes, until_end, is_ended, size_of, with_first, split, fields_in, first_in, others_in, are_numbers, numbers_in, is_misshapen, shape_rows}
use Rattle.lines.proofs.Splitting.{Parted, parted, split_parted, length_parted}
use Rattle.lines.proofs.Shape.{line_bytes, shape_forth}

-- ---- the commas before the line's end

pub others_first : (b : ℕ) (l : List (List ℕ)) → Parted l → drop 1 (with_first b l) ≡ drop 1 l
unfolding with_first
others_first b l (parted f fs) = refl

-- a field after each comma
others_of : List ℕ → ℕ
others_of bs = length (drop 1 (split bs))

one_other : (b : ℕ) (bs : List ℕ) → others_of (b ∷ bs) ≡ cond (eqb b comma) (1 + others_of bs) (others_of bs)
unfolding others_of split
one_other b bs = go (eqb b comma)
  where
    go : (t : Bool) → length (drop 1 (cond t ([] ∷ split bs) (with_first b (split bs)))) ≡ cond t (1 + length (drop 1 (split bs))) (length (drop 1 (split bs)))
    go true = omega (arith, length_parted (split bs) (split_parted bs))
    go false = ap length (others_first b (split bs) (split_parted bs))

-- how many commas the line has, each with a field after it, where it is ended
abbrev pub commas_of : List ℕ → Option ℕ
commas_of bs = cond (is_ended bs) (Some (length (others_in bs))) None

-- the commas of what is left of a line, and so many before it
unfoldable pub with_before : ℕ → Option ℕ → Option ℕ
with_before n (Some c) = Some (n + c)
with_before n None = None

one_byte : (b : ℕ) (bs : List ℕ) → commas_of (b ∷ bs) ≡ cond (eqb b line_feed) (Some 0) (cond (eqb b comma) (with_before 1 (commas_of bs)) (commas_of bs))
unfolding until_end is_ended fields_in split others_of with_before
one_byte b bs =
    elim (eqb b line_feed) as (λ t. eqb b line_feed ≡ t → commas_of (b ∷ bs) ≡ cond t (Some 0) (cond (eqb b comma) (with_before 1 (commas_of bs)) (commas_of bs))) [
      | true ↦ λ e. simp e
      | false ↦ λ e. simp e (ap (λ (n : ℕ). cond (is_ended bs) (Some n) None) (one_other b (until_end bs)) ∙ by (is_ended bs) (eqb b comma))
    ] refl
  where
    by : (t u : Bool) → cond t (Some (cond u (1 + others_of (until_end bs)) (others_of (until_end bs)))) None
        ≡ cond u (with_before 1 (cond t (Some (others_of (until_end bs))) None)) (cond t (Some (others_of (until_end bs))) None)
    by true true = refl
    by true false = refl
    by false true = refl
    by false false = refl

-- a byte of the line, from an index on
module _ (n i d : ℕ) (bs : List ℕ) (h : i < length bs) where
  here : commas_of (drop i bs) ≡ cond (eqb (get_or bs i d) line_feed) (Some 0) (cond (eqb (get_or bs i d) comma) (with_before 1 (commas_of (drop (i + 1) bs))) (commas_of (drop (i + 1) bs)))
  here = at_drop_more commas_of bs i d h ∙ one_byte (get_or bs i d) (drop (i + 1) bs)

  pub at_feed : get_or bs i d ≡ line_feed → Some n ≡ with_before n (commas_of (drop i bs))
  unfolding with_before
  at_feed e =
      let none : commas_of (drop i bs) ≡ Some 0 = here ∙ rw (eq-eqb (get_or bs i d) line_feed e) refl in
      sym (ap (with_before n) none ∙ ap Some (omega arith))

  pub at_comma : get_or bs i d ≡ comma → with_before (n + 1) (commas_of (drop (i + 1) bs)) ≡ with_before n (commas_of (drop i bs))
  unfolding with_before
  at_comma e =
      let more : commas_of (drop i bs) ≡ with_before 1 (commas_of (drop (i + 1) bs)) =
      here ∙ rw (ne_eqb (get_or bs i d) line_feed (λ g. omega arith), eq-eqb (get_or bs i d) comma e) refl in
      sym (ap (with_before n) more ∙ go (commas_of (drop (i + 1) bs)))
    where
      go : (o : Option ℕ) → with_before n (with_before 1 o) ≡ with_before (n + 1) o
      go (Some c) = ap Some (omega arith)
      go None = refl

  pub at_other : (get_or bs i d ≡ line_feed → ⊥) → (get_or bs i d ≡ comma → ⊥) → commas_of (drop (i + 1) bs) ≡ commas_of (drop i bs)
  at_other f g = sym (here ∙ rw (ne_eqb (get_or bs i d) line_feed f, ne_eqb (get_or bs i d) comma g) refl)

pub at_no_byte : (n i : ℕ) (bs : List ℕ) → length bs ≤ i → None ≡ with_before n (commas_of (drop i bs))
unfolding with_before is_ended
at_no_byte n i bs h = sym (ap (with_before n) (at_drop_all commas_of bs i h))

pub from_start : (o : Option ℕ) → with_before 0 o ≡ o
unfolding with_before
from_start (Some c) = ap Some (omega arith)
from_start None = refl

-- ---- the first field

pub first_of_lem : (b : ℕ) (l : List (List ℕ)) → Parted l → get_or (with_first b l) 0 [] ≡ b ∷ get_or l 0 []
unfolding with_first
first_of_lem b l (parted f fs) = refl

-- it is nothing where the bytes, or the line, or the field ends at once
pub first_none : (bs : List ℕ) → length bs ≡ 0 → same_bytes (first_in bs) [] ≡ true
unfolding fields_in until_end split same_bytes
first_none [] h = refl
first_none (b ∷ bs) h = absurd (omega arith)

pub first_feed : (bs : List ℕ) → get_or bs 0 0 ≡ line_feed → same_bytes (first_in bs) [] ≡ true
unfolding fields_in until_end split same_bytes
first_feed [] h = refl
first_feed (b ∷ bs) h = simp (eq-eqb b line_feed h)

pub first_comma : (bs : List ℕ) → get_or bs 0 0 ≡ comma → same_bytes (first_in bs) [] ≡ true
unfolding fields_in until_end split same_bytes
first_comma [] h = refl
first_comma (b ∷ bs) h = simp (ne_eqb b line_feed (λ g. omega arith), eq-eqb b comma h)

pub first_more : (bs : List ℕ) → 0 < length bs → (get_or bs 0 0 ≡ comma → ⊥) → (get_or bs 0 0 ≡ line_feed → ⊥) → same_bytes (first_in bs) [] ≡ false
unfolding fields_in until_end split same_bytes
first_more [] k h g = absurd (omega arith)
first_more (b ∷ bs) k h g = simp (ne_eqb b line_feed g, ne_eqb b comma h) (rw (first_of_lem b (split (until_end bs)) (split_parted (until_end bs))))

-- for `goes_on`
pub ruleset first_ends = (first_none, first_feed, first_comma, first_more)

-- ---- 61 or 62

-- by the commas of the line, where it is ended; so many fields are due, or as many as it has
module _ (count : Option ℕ) (bs : List ℕ) (o : Option ℕ) (e : o ≡ cond (is_ended bs) (Some (length (others_in bs))) None) where
  abbrev due : ℕ
  due = unwrap_or count (length (others_in bs))

  pub no_end : o ≡ None → true ≡ is_misshapen [] due bs
  unfolding is_misshapen
  no_end h = go (is_ended bs) (sym e ∙ h)
    where
      go : (t : Bool) → cond t (Some (length (others_in bs))) None ≡ None → true ≡ (not t || (not (same_bytes (first_in bs) []) || not (eqb (length (others_in bs)) due)))
      go true g = absurd (let z : ◌≡◌ {A = ℕ} 0 1 = cc g in omega arith)
      go false g = refl

  pub by_commas : (c u : ℕ) → o ≡ Some c → u ≡ unwrap_or count c → same_bytes (first_in bs) [] ≡ true → not (eqb c u) ≡ is_misshapen [] due bs
  unfolding is_misshapen
  by_commas c u h k f = rw (f, k) (go (is_ended bs) (sym e ∙ h))
    where
      go : (t : Bool) → cond t (Some (length (others_in bs))) None ≡ Some c → not (eqb c (unwrap_or count c)) ≡ (not t || (not true || not (eqb (length (others_in bs)) due)))
      go true g = ap (λ (n : ℕ). not (eqb n (unwrap_or count n))) (sym (cc g))
      go false g = absurd (let z : ◌≡◌ {A = ℕ} 0 1 = cc g in omega arith)

module _ (first : List ℕ) (count : ℕ) (bs : List ℕ) where
  pub misshapen_first : same_bytes (first_in bs) first ≡ false → is_misshapen first count bs ≡ true
  unfolding is_misshapen
  misshapen_first e = simp (e, or-true)

  -- no numbers make a line of the bytes
  abbrev pub NoLine : Type 0
  NoLine = (ns rest : List ℕ) → length ns ≡ count → some_long ns ≡ false → bs ≡ line_bytes first ns rest → ⊥

  -- LAW: such bytes are refused, with 61 if they have not the shape, and otherwise with 62
  pub refused_rows : NoLine → first_of (shape_rows first count bs) ≡ Err (cond (is_misshapen first count bs) R.Shape R.Number)
  unfolding shape_rows first_of
  refused_rows none = go (is_misshapen first count bs) (are_numbers (others_in bs)) refl refl
    where
      rows : Bool → Bool → Result Unit Refusal
      rows m n = first_of (row R.Shape m ∷ row R.Number (not n) ∷ [])

      go : (m n : Bool) → is_misshapen first count bs ≡ m → are_numbers (others_in bs) ≡ n → rows m n ≡ Err (cond m R.Shape R.Number)
      go true n e g = refl
      go false false e g = refl
      go false true e g =
          let accepted : first_of (shape_rows first count bs) ≡ Ok tt = simp (e, g) in
          let l = shape_forth first count bs accepted in
          absurd (none (numbers_in bs) (drop (size_of bs) bs) l.counted l.short l.bytes)
