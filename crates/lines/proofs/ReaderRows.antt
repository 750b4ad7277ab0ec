-- What reading means, by the kind of line that is due, as the code finds it.
-- Assumes nothing.
use Rattle.std.proofs.Common.{Err}
use mathlib.Core.Path.{◌≡◌, refl, sym, ap, ◌∙◌}
use mathlib.Core.Bool.{Bool, true, false}
use mathlib.Core.List.{List, [], ◌∷◌, ◌++◌}
use Prim.Native.Nat.{ℕ, ◌-◌, ◌<◌}
use native.Mathlib.Omega.{arith}
use lib.Dec.{eqb}
use lib.ListN.{length, get_or, take, drop, take-append-drop}
use borrow.Author.Tests.{ne_eqb}
use Rattle.quantity.specs.Refusals.{row, first_of}
use Rattle.quantity.specs.declared.refusal.Row.{Row}
use Rattle.quantity.specs.declared.refusal.Refusal.TheVariants as R
use Rattle.quantity.proofs.Rows.{parts}
use Rattle.buffer.proofs.Lent.{rest_all}
use Rattle.meter.specs.Edition.{is_other_edition}
use Rattle.lines.specs.Bytes.{line_feed, comma, letter_c, letter_e, letter_s}
use Rattle.lines.specs.Line.{LineKind, card, sample, totals, first_field, bytes_of, opening_in, in_edition, content_rows, opening_length, count_of, line_of}
use Rattle.lines.specs.Reading.{front_of, same_bytes, until_end, size_of, split, fields_in, first_in, numbers_in, shape_rows, edition_in, due_kind, line_in, line_rows, later_rows, read_rows, answer_of, read_of}
use Rattle.lines.specs.Inside.Parts.{after_letter}
use Rattle.lines.specs.declared.line.Layout.{Layout}
use Rattle.lines.specs.declared.line.MayCome.{MayCome}
use Rattle.lines.specs.declared.line.MayCome.TheVariants as M
use Rattle.lines.proofs.Splitting.{split_parted}
use Rattle.lines.proofs.LineBytes.{bytes_size}
use Rattle.lines.proofs.Openings.{opening_length_lem, opened_exactly}
use Rattle.lines.proofs.Faults.{misshapen_first, first_of_lem}
use Rattle.lines.proofs.Letters.{by_letter, other_first}

-- ---- the edition

-- another edition, told or not found, is refused before all else
pub edition_refused : (may : MayCome) (bs : List ℕ) → is_other_edition (edition_in may bs) ≡ true → read_of may bs ≡ Err R.Edition
unfolding read_of read_rows first_of
edition_refused may bs h = simp h

-- and otherwise the rows after that one decide
after_edition : (e : ℕ) (rs : List Row) → is_other_edition e ≡ false → first_of (row R.Edition (is_other_edition e) ∷ rs) ≡ first_of rs
unfolding first_of
after_edition e rs h = simp h

-- bytes in which an edition's opening is found begin with it
pub opening_front : (w : Layout) (bs : List ℕ) (e : ℕ) → is_other_edition e ≡ false → edition_in (M.Opening w) bs ≡ e → bs ≡ bytes_of (opening_in w e) ++ drop opening_length bs
opening_front w bs e h p =
    sym (take-append-drop opening_length bs) ∙ ap (λ (l : List ℕ). l ++ drop opening_length bs) ((opened_exactly w bs e h).0 p)

pub opening_sized : (w : Layout) (bs : List ℕ) (e : ℕ) → is_other_edition e ≡ false → edition_in (M.Opening w) bs ≡ e → size_of bs ≡ opening_length
opening_sized w bs e h p = ap size_of (opening_front w bs e h p) ∙ bytes_size (opening_in w e) (drop opening_length bs) ∙ opening_length_lem w e h

pub opening_read : (w : Layout) (bs : List ℕ) (e : ℕ) → is_other_edition e ≡ false → edition_in (M.Opening w) bs ≡ e →
    read_of (M.Opening w) bs ≡ front_of (opening_in w e) opening_length
unfolding read_of read_rows later_rows first_of line_in due_kind line_of
opening_read w bs e h p = simp (p, h, opening_sized w bs e h p)

pub opening_told : (w : Layout) (may : MayCome) (bs : List ℕ) (e : ℕ) → is_other_edition e ≡ false → e ≡ edition_in may bs → may ≡ M.Opening w →
    front_of (opening_in w e) opening_length ≡ read_of may bs
opening_told w may bs e o p m = sym (ap (λ (y : MayCome). read_of y bs) m ∙ opening_read w bs e o (sym (p ∙ ap (λ (y : MayCome). edition_in y bs) m)))

-- ---- the letter

-- bytes that begin with another byte have another first field
pub other_letter : (letter : ℕ) (bs : List ℕ) → (get_or bs 0 0 ≡ letter → ⊥) → same_bytes (first_in bs) (letter ∷ []) ≡ false
unfolding fields_in until_end split same_bytes
other_letter letter [] h = refl
other_letter letter (b ∷ bs) h =
    elim (eqb b line_feed) as (λ t. eqb b line_feed ≡ t → same_bytes (first_in (b ∷ bs)) (letter ∷ []) ≡ false) [
      | true ↦ λ e. simp e
      | false ↦ λ e.
          (elim (eqb b comma) as (λ t. eqb b comma ≡ t → same_bytes (first_in (b ∷ bs)) (letter ∷ []) ≡ false) [
            | true ↦ λ g. simp (e, g)
            | false ↦ λ g. simp (e, g) (rw (first_of_lem b (split (until_end bs)) (split_parted (until_end bs))) (simp (ne_eqb b letter h)))
          ] refl)
    ] refl

-- no bytes begin with a letter
nothing_lem : (bs : List ℕ) → length bs ≡ 0 → (letter : ℕ) → 0 < letter → get_or bs 0 0 ≡ letter → ⊥
nothing_lem [] h letter k g = omega arith
nothing_lem (b ∷ bs) h letter k g = omega arith

-- bytes with another first field are refused with 61
pub shape_other : (first : List ℕ) (count : ℕ) (bs : List ℕ) → same_bytes (first_in bs) first ≡ false → first_of (shape_rows first count bs) ≡ Err R.Shape
unfolding shape_rows first_of
shape_other first count bs h = simp (misshapen_first first count bs h)

-- ---- the line that is due

-- by the rows of the kind that is due
module _ (may : MayCome) (bs : List ℕ) (o : is_other_edition (edition_in may bs) ≡ false) (k : LineKind) (d : due_kind may bs ≡ k)
    (later : later_rows may bs ≡ line_rows (edition_in may bs) (due_kind may bs) bs) where
  pub by_due : read_of may bs ≡ answer_of (in_edition (edition_in may bs) (line_of k (numbers_in bs))) (size_of bs) (first_of (line_rows (edition_in may bs) k bs))
  unfolding read_of read_rows line_in
  by_due = rw (later, d, after_edition (edition_in may bs) (line_rows (edition_in may bs) k bs) o)

  -- where the bytes begin with another first field
  wrong_first : same_bytes (first_in bs) (first_field k) ≡ false → read_of may bs ≡ Err R.Shape
  unfolding line_rows
  wrong_first h =
      let e : ℕ = edition_in may bs in
      let rows : first_of (shape_rows (first_field k) (count_of e k) bs ++ content_rows (line_of k (numbers_in bs))) ≡ Err R.Shape =
      parts (shape_rows (first_field k) (count_of e k) bs) (content_rows (line_of k (numbers_in bs))) ∙ rw (shape_other (first_field k) (count_of e k) bs h) in
      by_due ∙ rw rows

-- ---- by the first byte, where the edition was told

module _ (e : ℕ) (o : is_other_edition e ≡ false) where
  card_read : (after : List ℕ) → read_of (M.Card e) (letter_c ∷ after) ≡ after_letter e card after
  unfolding edition_in due_kind later_rows first_field
  card_read after = by_due (M.Card e) (letter_c ∷ after) o card refl refl ∙ by_letter e card letter_c after (omega arith) refl

  card_wrong : (bs : List ℕ) → (get_or bs 0 0 ≡ letter_c → ⊥) → read_of (M.Card e) bs ≡ Err R.Shape
  unfolding edition_in due_kind later_rows first_field
  card_wrong bs h = wrong_first (M.Card e) bs o card refl refl (other_letter letter_c bs h)

  sample_due : (bs : List ℕ) → (get_or bs 0 0 ≡ letter_e → ⊥) → due_kind (M.SampleOrEnd e) bs ≡ sample
  unfolding due_kind first_field
  sample_due bs h = rw (other_letter letter_e bs h)

  sample_read : (after : List ℕ) → read_of (M.SampleOrEnd e) (letter_s ∷ after) ≡ after_letter e sample after
  unfolding edition_in later_rows first_field
  sample_read after =
      by_due (M.SampleOrEnd e) (letter_s ∷ after) o sample (sample_due (letter_s ∷ after) (λ g. omega arith)) refl
      ∙ by_letter e sample letter_s after (omega arith) refl

  later_wrong : (bs : List ℕ) → (get_or bs 0 0 ≡ letter_s → ⊥) → (get_or bs 0 0 ≡ letter_e → ⊥) → read_of (M.SampleOrEnd e) bs ≡ Err R.Shape
  unfolding edition_in later_rows first_field
  later_wrong bs h g = wrong_first (M.SampleOrEnd e) bs o sample (sample_due bs g) refl (other_letter letter_s bs h)

  -- where the first field goes on after E, a sample's line is due, and both are refused alike
  end_read : (after : List ℕ) → read_of (M.SampleOrEnd e) (letter_e ∷ after) ≡ after_letter e totals after
  unfolding edition_in due_kind later_rows first_field
  end_read after = go (same_bytes (first_in (letter_e ∷ after)) (letter_e ∷ [])) refl
    where
      go : (t : Bool) → same_bytes (first_in (letter_e ∷ after)) (letter_e ∷ []) ≡ t → read_of (M.SampleOrEnd e) (letter_e ∷ after) ≡ after_letter e totals after
      go true t = by_due (M.SampleOrEnd e) (letter_e ∷ after) o totals (rw t) refl ∙ by_letter e totals letter_e after (omega arith) refl
      go false t =
          wrong_first (M.SampleOrEnd e) (letter_e ∷ after) o sample (rw t) refl (other_letter letter_s (letter_e ∷ after) (λ g. omega arith))
          ∙ sym (other_first e totals letter_e after (omega arith) t)

-- the same where what was told is matched, and what follows the letter was lent on
module _ (may : MayCome) (bs : List ℕ) (e : ℕ) (o : is_other_edition e ≡ false) (p : e ≡ edition_in may bs) (x : ℕ) where
  -- what is read as told is read in the edition that is found
  as_told : (tell : ℕ → MayCome) → edition_in (tell x) bs ≡ x → may ≡ tell x → read_of (tell e) bs ≡ read_of may bs
  as_told tell told m =
      let same : e ≡ x = p ∙ ap (λ (y : MayCome). edition_in y bs) m ∙ told in
      ap (λ (k : ℕ). read_of (tell k) bs) same ∙ sym (ap (λ (y : MayCome). read_of y bs) m)

  lent : 0 < length bs → (b : ℕ) → get_or bs 0 0 ≡ b → b ∷ take (length bs - 1) (drop 1 bs) ≡ bs
  lent h b g = rw rest_all (begins bs h g)
    where
      begins : (bs : List ℕ) → 0 < length bs → get_or bs 0 0 ≡ b → b ∷ drop 1 bs ≡ bs
      begins [] h g = absurd (omega arith)
      begins (a ∷ bs) h g = let e : a ≡ b = g in rw e

  module _ (m : may ≡ M.Card x) where
    as_card : read_of (M.Card e) bs ≡ read_of may bs
    unfolding edition_in
    as_card = as_told (λ k. M.Card k) refl m

    pub card_front : 0 < length bs → get_or bs 0 0 ≡ letter_c → after_letter e card (take (length bs - 1) (drop 1 bs)) ≡ read_of may bs
    card_front h g = sym (card_read e o (take (length bs - 1) (drop 1 bs))) ∙ ap (read_of (M.Card e)) (lent h letter_c g) ∙ as_card

    pub card_other : (get_or bs 0 0 ≡ letter_c → ⊥) → Err R.Shape ≡ read_of may bs
    card_other g = sym (card_wrong e o bs g) ∙ as_card

    pub card_none : length bs ≡ 0 → Err R.Shape ≡ read_of may bs
    card_none h = card_other (λ g. absurd (nothing_lem bs h letter_c (omega arith) g))

  module _ (m : may ≡ M.SampleOrEnd x) where
    as_later : read_of (M.SampleOrEnd e) bs ≡ read_of may bs
    unfolding edition_in
    as_later = as_told (λ k. M.SampleOrEnd k) refl m

    pub sample_front : 0 < length bs → get_or bs 0 0 ≡ letter_s → after_letter e sample (take (length bs - 1) (drop 1 bs)) ≡ read_of may bs
    sample_front h g = sym (sample_read e o (take (length bs - 1) (drop 1 bs))) ∙ ap (read_of (M.SampleOrEnd e)) (lent h letter_s g) ∙ as_later

    pub end_front : 0 < length bs → get_or bs 0 0 ≡ letter_e → after_letter e totals (take (length bs - 1) (drop 1 bs)) ≡ read_of may bs
    end_front h g = sym (end_read e o (take (length bs - 1) (drop 1 bs))) ∙ ap (read_of (M.SampleOrEnd e)) (lent h letter_e g) ∙ as_later

    pub later_other : (get_or bs 0 0 ≡ letter_s → ⊥) → (get_or bs 0 0 ≡ letter_e → ⊥) → Err R.Shape ≡ read_of may bs
    later_other h g = sym (later_wrong e o bs h g) ∙ as_later

    pub later_none : length bs ≡ 0 → Err R.Shape ≡ read_of may bs
    later_none h = later_other (λ g. absurd (nothing_lem bs h letter_s (omega arith) g)) (λ g. absurd (nothing_lem bs h letter_e (omega arith) g))

-- for `front_line`
pub ruleset by_byte = (edition_refused, opening_told, card_front, card_other, card_none, sample_front, end_front, later_other, later_none)
