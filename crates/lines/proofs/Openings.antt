-- The opening's bytes, written out, and the edition that is found in them.
-- Assumes nothing.
use mathlib.Core.Path.{◌≡◌, refl, sym, ap, ◌∙◌}
use mathlib.Core.Bool.{Bool, true, false}
use mathlib.Core.List.{List, [], ◌∷◌, ◌++◌}
use mathlib.Core.Logic.{◌⊎◌, inl, inr}
use Prim.Native.Nat.{ℕ, zero, suc, ◌+◌, ◌-◌, ◌≤◌, ◌<◌}
use native.Mathlib.Omega.{arith}
use lib.Dec.{eqb}
use lib.ListN.{length, get_or, take}
use Rattle.std.specs.Prelude.{◌↔◌, slice_index_or}
use Rattle.std.specs.Cmp.Lexicographic.{pointwise}
use Rattle.quantity.proofs.Conditions.{inside}
use Rattle.meter.specs.Edition.{last_edition, is_other_edition}
use Rattle.lines.specs.Bytes.{line_feed, comma, digit_zero}
use Rattle.lines.specs.Line.{word_of, kind_of, first_field, count_of, all_numbers_of, numbers_of, after_commas, text_of, bytes_of, opening_in, opening_length}
use Rattle.lines.specs.Reading.{same_bytes, opened_up_to, edition_in}
use Rattle.lines.specs.Theorems.{OpeningBytes}
use Rattle.lines.specs.declared.line.Layout.{Layout}
use Rattle.lines.specs.declared.line.Layout.TheVariants.{Lines, Columns}
use Rattle.lines.specs.declared.line.MayCome.TheVariants as M
use Rattle.lines.specs.declared.opening.TheConstants.{OF_LINES, OF_COLUMNS}
use Rattle.lines.proofs.Decimals.{decimal_one}
use Rattle.lines.proofs.Same.{same_true, same_eq, same_pointwise}

-- an edition is a digit, and no 0
pub edition_least : (e : ℕ) → is_other_edition e ≡ false → 1 ≤ e
edition_least e h = (inside e 1 last_edition h).0

pub edition_most : (e : ℕ) → is_other_edition e ≡ false → e ≤ last_edition
edition_most e h = (inside e 1 last_edition h).1

pub digit_bytes : (w : Layout) (e : ℕ) → e ≤ last_edition → bytes_of (opening_in w e) ≡ word_of w ++ (comma ∷ (digit_zero + e) ∷ line_feed ∷ [])
unfolding kind_of first_field count_of all_numbers_of numbers_of after_commas text_of bytes_of
digit_bytes w e h = rw (decimal_one e (omega arith))

word_bytes : (w : Layout) (digit : ℕ) → length (word_of w ++ (comma ∷ digit ∷ line_feed ∷ [])) ≡ opening_length
unfolding word_of
word_bytes Lines digit = refl
word_bytes Columns digit = refl

pub digit_length : (w : Layout) (e : ℕ) → e ≤ last_edition → length (bytes_of (opening_in w e)) ≡ opening_length
digit_length w e h = ap length (digit_bytes w e h) ∙ word_bytes w (digit_zero + e)

-- and the layout's table has it at its place
table_of : Layout → List (List ℕ)
table_of Lines = OF_LINES
table_of Columns = OF_COLUMNS

-- the bytes after the word, by the edition
abbrev with_digit : Layout → ℕ → List ℕ
with_digit w e = word_of w ++ (comma ∷ (digit_zero + e) ∷ line_feed ∷ [])

in_table : (w : Layout) (e : ℕ) → 1 ≤ e → e ≤ last_edition → slice_index_or (table_of w) (e - 1) [] ≡ with_digit w e
unfolding table_of word_of
in_table w zero l h = absurd (omega arith)
in_table Lines (suc zero) l h = refl
in_table Columns (suc zero) l h = refl
in_table Lines (suc (suc zero)) l h = refl
in_table Columns (suc (suc zero)) l h = refl
in_table Lines (suc (suc (suc zero))) l h = refl
in_table Columns (suc (suc (suc zero))) l h = refl
in_table w (suc (suc (suc (suc e)))) l h = absurd (omega arith)

pub lines_listed : (e : ℕ) → 1 ≤ e → e ≤ last_edition → slice_index_or OF_LINES (e - 1) [] ≡ bytes_of (opening_in Lines e)
unfolding table_of
lines_listed e l h = in_table Lines e l h ∙ sym (digit_bytes Lines e h)

pub columns_listed : (e : ℕ) → 1 ≤ e → e ≤ last_edition → slice_index_or OF_COLUMNS (e - 1) [] ≡ bytes_of (opening_in Columns e)
unfolding table_of
columns_listed e l h = in_table Columns e l h ∙ sym (digit_bytes Columns e h)

pub opening_length_lem : (w : Layout) (e : ℕ) → is_other_edition e ≡ false → length (bytes_of (opening_in w e)) ≡ opening_length
opening_length_lem w e h = digit_length w e (edition_most e h)

pub opening_bytes : OpeningBytes
opening_bytes w e h = (digit_bytes w e (edition_most e h), opening_length_lem w e h)

-- bytes that begin with it, by the library's test
pub opens_by : (bs text : List ℕ) (w : Layout) (e : ℕ) → e ≤ last_edition → text ≡ bytes_of (opening_in w e) →
    pointwise eqb text (take (length text) bs) ≡ same_bytes (take opening_length bs) (bytes_of (opening_in w e))
opens_by bs text w e h g = same_pointwise (take (length text) bs) text ∙ rw (g, digit_length w e h)

-- the bytes tell the edition
digit_at : (w : Layout) (digit : ℕ) → get_or (word_of w ++ (comma ∷ digit ∷ line_feed ∷ [])) 12 0 ≡ digit
unfolding word_of
digit_at Lines digit = refl
digit_at Columns digit = refl

edition_told : (w : Layout) (e f : ℕ) → e ≤ last_edition → f ≤ last_edition → bytes_of (opening_in w e) ≡ bytes_of (opening_in w f) → e ≡ f
edition_told w e f h g p =
    let same = ap (λ (l : List ℕ). get_or l 12 0) (sym (digit_bytes w e h) ∙ p ∙ digit_bytes w f g) in
    omega (arith, sym (digit_at w (digit_zero + e)) ∙ same ∙ digit_at w (digit_zero + f))

module _ (w : Layout) (bs : List ℕ) where
  -- the bytes begin with an edition's opening
  abbrev pub opens : ℕ → Bool
  opens e = same_bytes (take opening_length bs) (bytes_of (opening_in w e))

  -- an edition that is found is one whose opening they begin with
  found_opens : (n : ℕ) → (opened_up_to w n bs ≡ 0) ⊎ (opens (opened_up_to w n bs) ≡ true)
  unfolding opened_up_to
  found_opens zero = inl refl
  found_opens (suc n) = by (opens (suc n)) refl (found_opens n)
    where
      by : (t : Bool) → opens (suc n) ≡ t → (opened_up_to w n bs ≡ 0) ⊎ (opens (opened_up_to w n bs) ≡ true)
          → (opened_up_to w (suc n) bs ≡ 0) ⊎ (opens (opened_up_to w (suc n) bs) ≡ true)
      by true t later = inr (rw t t)
      by false t later = rw t later

  -- and each such edition is found
  opens_found : (n e : ℕ) → n ≤ last_edition → 1 ≤ e → e ≤ n → opens e ≡ true → opened_up_to w n bs ≡ e
  unfolding opened_up_to
  opens_found zero e h l k o = absurd (omega arith)
  opens_found (suc n) e h l k o = by (opens (suc n)) refl (λ m. opens_found n e (omega arith) l m o)
    where
      by : (t : Bool) → opens (suc n) ≡ t → (e ≤ n → opened_up_to w n bs ≡ e) → opened_up_to w (suc n) bs ≡ e
      by true t later =
          rw t
          (edition_told w (suc n) e h (omega arith)
          (sym (same_true (take opening_length bs) (bytes_of (opening_in w (suc n))) t) ∙ same_true (take opening_length bs) (bytes_of (opening_in w e)) o))
      by false t later =
          let other : e ≡ suc n → ⊥ = λ q. let z : true ≡ false = sym o ∙ ap opens q ∙ t in absurd (let y : ◌≡◌ {A = ℕ} 0 1 = cc z in omega arith) in
          rw t (later (omega (arith, other)))

  -- one step down of the search
  pub opened_here : (e : ℕ) → 0 < e → opens e ≡ true → opened_up_to w e bs ≡ e
  unfolding opened_up_to
  opened_here zero h o = absurd (omega arith)
  opened_here (suc e) h o = rw o

  pub opened_below : (e : ℕ) → 0 < e → opens e ≡ false → opened_up_to w e bs ≡ opened_up_to w (e - 1) bs
  unfolding opened_up_to
  opened_below zero h o = absurd (omega arith)
  opened_below (suc e) h o = rw o (let z : e ≡ suc e - 1 = omega arith in ap (λ (n : ℕ). opened_up_to w n bs) z)

  pub opened_none : (e : ℕ) → e ≤ 0 → opened_up_to w e bs ≡ 0
  unfolding opened_up_to
  opened_none zero h = refl
  opened_none (suc e) h = absurd (omega arith)

-- LAW: an edition is found exactly where the bytes begin with its opening
pub opened_exactly : (w : Layout) (bs : List ℕ) (e : ℕ) → is_other_edition e ≡ false → (edition_in (M.Opening w) bs ≡ e) ↔ (take opening_length bs ≡ bytes_of (opening_in w e))
unfolding edition_in
opened_exactly w bs e h = (forth (found_opens w bs last_edition), back)
  where
    forth : (opened_up_to w last_edition bs ≡ 0) ⊎ (opens w bs (opened_up_to w last_edition bs) ≡ true) → opened_up_to w last_edition bs ≡ e → take opening_length bs ≡ bytes_of (opening_in w e)
    forth (inl z) p = absurd (omega (arith, (inside e 1 last_edition h).0))
    forth (inr o) p = same_true (take opening_length bs) (bytes_of (opening_in w e)) (rw p at o)

    back : take opening_length bs ≡ bytes_of (opening_in w e) → opened_up_to w last_edition bs ≡ e
    back p =
        let q = inside e 1 last_edition h in
        opens_found w bs last_edition e (omega arith) q.0 q.1 (same_eq (take opening_length bs) (bytes_of (opening_in w e)) p)
