-- Each refusal of the reader is answered exactly where its own condition is the first that holds.
-- Assumes nothing.
use Rattle.std.proofs.Common.{Result, Ok, Err}
use mathlib.Core.Path.{◌≡◌, refl, sym, ap, ◌∙◌, subst}
use mathlib.Core.Bool.{Bool, true, false, cond, not, ◌&&◌, and-true}
use mathlib.Core.List.{List}
use Prim.Native.Nat.{ℕ}
use native.Mathlib.Omega.{arith}
use Rattle.quantity.specs.Refusals.{number_of, first_of, refusal_number, first_number}
use Rattle.quantity.specs.declared.refusal.Refusal.{Refusal}
use Rattle.quantity.specs.declared.refusal.Refusal.TheVariants as R
use Rattle.quantity.proofs.Rows.{number_of_rows}
use Rattle.meter.specs.Edition.{is_other_edition}
use Rattle.meter.specs.Card.{card_rows}
use Rattle.meter.proofs.Accepted.{number_at_16}
use Rattle.lines.specs.Line.{sample, totals, first_field, count_of, card_at, card_of, line_of, content_rows}
use Rattle.lines.specs.Reading.{same_bytes, size_of, first_in, others_in, numbers_in, are_numbers, shape_rows, edition_in, due_kind, line_in, line_rows, later_rows, read_rows, answer_of, read_of}
use Rattle.lines.specs.RoundTrip.{is_no_line, is_misshapen_due, Cause, other_edition, misshapen, no_number, card_row}
use Rattle.lines.specs.Theorems.{RefusedExactly, NeverForPressure}
use Rattle.lines.specs.declared.line.EditionLine.{EditionLine}
use Rattle.lines.specs.declared.line.Layout.{Layout}
use Rattle.lines.specs.declared.line.MayCome.{MayCome}
use Rattle.lines.specs.declared.line.Front.{Front}
use Rattle.lines.specs.declared.line.MayCome.TheVariants as M
use Rattle.lines.proofs.Same.{same_true}
use Rattle.lines.proofs.Faults.{misshapen_first}

-- a refusal is that of the rows
of_rows : (line : EditionLine) (n : ℕ) (r : Refusal) (o : Result Unit Refusal) → answer_of line n o ≡ Err r → o ≡ Err r
of_rows line n r (Ok u) e = absurd (let z : ◌≡◌ {A = ℕ} 0 1 = cc e in omega arith)
of_rows line n r (Err q) e = ap (λ (x : Refusal). Err x) (cc e)

rows_of : (line : EditionLine) (n : ℕ) (r : Refusal) (o : Result Unit Refusal) → o ≡ Err r → answer_of line n o ≡ Err r
rows_of line n r o e = rw e

-- the row of the edition, the rows of a line's shape, and what the rows after them answer
rows : Bool → Bool → Bool → Result Unit Refusal → Result Unit Refusal
rows o m n later = cond o (Err R.Edition) (cond m (Err R.Shape) (cond (not n) (Err R.Number) later))

data Which (o m n : Bool) (later : Result Unit Refusal) : Refusal → Type 0 where
  by_edition : o ≡ true → Which o m n later R.Edition
  by_shape : o ≡ false → m ≡ true → Which o m n later R.Shape
  by_number : o ≡ false → m ≡ false → n ≡ false → Which o m n later R.Number
  by_later : (r : Refusal) → o ≡ false → m ≡ false → n ≡ true → later ≡ Err r → Which o m n later r

which : (o m n : Bool) (later : Result Unit Refusal) (r : Refusal) → rows o m n later ≡ Err r → Which o m n later r
unfolding rows
which true m n later r e = subst (λ (k : Refusal). Which true m n later k) (cc e) (by_edition refl)
which false true n later r e = subst (λ (k : Refusal). Which false true n later k) (cc e) (by_shape refl refl)
which false false false later r e = subst (λ (k : Refusal). Which false false false later k) (cc e) (by_number refl refl refl)
which false false true later r e = by_later r refl refl refl e

card_other : (e : ℕ) (w : Layout) → M.Card e ≡ M.Opening w → ⊥
card_other e w o = let z : ◌≡◌ {A = ℕ} 0 1 = cc o in omega arith

later_other : (e : ℕ) (w : Layout) → M.SampleOrEnd e ≡ M.Opening w → ⊥
later_other e w o = let z : ◌≡◌ {A = ℕ} 0 1 = cc o in omega arith

-- ---- which line is due: the opening, a card's line, or a sample's or the last

module _ (bs : List ℕ) where
  other : MayCome → Bool
  other may = is_other_edition (edition_in may bs)

  -- the opening has no row but the edition's
  numbers_due : MayCome → Bool
  numbers_due (M.Opening w) = true
  numbers_due (M.Card e) = are_numbers (others_in bs)
  numbers_due (M.SampleOrEnd e) = are_numbers (others_in bs)

  later : MayCome → Result Unit Refusal
  later (M.Opening w) = Ok tt
  later (M.Card e) = first_of (card_rows (card_of (numbers_in bs)))
  later (M.SampleOrEnd e) = Ok tt

  -- where a line S and line E both may stand, bytes whose first field is E begin with no line S, and the others with no line E
  end_no_sample : (e : ℕ) → same_bytes (first_in bs) (first_field totals) ≡ true → is_no_line e sample bs ≡ true
  unfolding is_no_line first_field same_bytes
  end_no_sample e h = misshapen_first (first_field sample) (count_of e sample) bs (rw (same_true (first_in bs) (first_field totals) h) refl)

  sample_no_end : (e : ℕ) → same_bytes (first_in bs) (first_field totals) ≡ false → is_no_line e totals bs ≡ true
  unfolding is_no_line
  sample_no_end e h = misshapen_first (first_field totals) (count_of e totals) bs h

  due_rows : (may : MayCome) → first_of (read_rows may bs) ≡ rows (other may) (is_misshapen_due may bs) (numbers_due may) (later may)
  unfolding read_rows later_rows line_rows first_of shape_rows rows other is_no_line numbers_due later edition_in line_of due_kind content_rows
  due_rows (M.Opening w) = refl
  due_rows (M.Card e) = refl
  due_rows (M.SampleOrEnd e) = go (same_bytes (first_in bs) (first_field totals)) refl
    where
      go : (t : Bool) → same_bytes (first_in bs) (first_field totals) ≡ t → cond (is_other_edition e) (Err R.Edition) (first_of (line_rows e (cond t totals sample) bs))
          ≡ rows (is_other_edition e) (is_no_line e sample bs && is_no_line e totals bs) (are_numbers (others_in bs)) (Ok tt)
      go true h = rw (end_no_sample e h) refl
      go false h = rw (sample_no_end e h, and-true (is_no_line e sample bs)) refl

  -- a cause for each refusal
  cause : (may : MayCome) (r : Refusal) → Which (other may) (is_misshapen_due may bs) (numbers_due may) (later may) r → Cause bs may r
  unfolding other numbers_due later edition_in
  cause may r (by_edition o) = other_edition o
  cause (M.Opening w) r (by_shape o m) = absurd (let z : ◌≡◌ {A = ℕ} 0 1 = cc m in omega arith)
  cause (M.Card e) r (by_shape o m) = misshapen o m
  cause (M.SampleOrEnd e) r (by_shape o m) = misshapen o m
  cause (M.Opening w) r (by_number o m n) = absurd (let z : ◌≡◌ {A = ℕ} 0 1 = cc n in omega arith)
  cause (M.Card e) r (by_number o m n) = no_number (card_other e) o m n
  cause (M.SampleOrEnd e) r (by_number o m n) = no_number (later_other e) o m n
  cause (M.Opening w) r (by_later k o m n h) = absurd (let z : ◌≡◌ {A = ℕ} 0 1 = cc h in omega arith)
  cause (M.Card e) r (by_later k o m n h) = card_row e k o m n h
  cause (M.SampleOrEnd e) r (by_later k o m n h) = absurd (let z : ◌≡◌ {A = ℕ} 0 1 = cc h in omega arith)

  -- a refusal for each cause
  refusal : (may : MayCome) (r : Refusal) → Cause bs may r → rows (other may) (is_misshapen_due may bs) (numbers_due may) (later may) ≡ Err r
  unfolding rows other numbers_due later edition_in
  refusal may r (other_edition o) = rw o
  refusal may r (misshapen o m) = rw (o, m)
  refusal (M.Opening w) r (no_number q o m n) = absurd (q w refl)
  refusal (M.Card e) r (no_number q o m n) = rw (o, m, n)
  refusal (M.SampleOrEnd e) r (no_number q o m n) = rw (o, m, n)
  refusal may r (card_row e k o m n h) = rw (o, m, n) h

pub refused_exactly : (may : MayCome) (bs : List ℕ) (x : Result Front Refusal) → x ≡ read_of may bs → RefusedExactly may bs x
unfolding read_of
refused_exactly may bs x e r = (
  λ f. cause bs may r (which _ _ _ _ r (sym (due_rows bs may) ∙ of_rows (line_in may bs) (size_of bs) r (first_of (read_rows may bs)) (sym e ∙ f))),
  λ c. e ∙ rows_of (line_in may bs) (size_of bs) r (first_of (read_rows may bs)) (due_rows bs may ∙ refusal bs may r c),
)

-- none is the card's pressure
pub never_for_pressure : (may : MayCome) (bs : List ℕ) (x : Result Front Refusal) → x ≡ read_of may bs → NeverForPressure x
unfolding number_of card_at
never_for_pressure may bs x e f = other may _ ((refused_exactly may bs x e R.Pressure).0 f) refl
  where
    other : (may : MayCome) (r : Refusal) → Cause bs may r → r ≡ R.Pressure → ⊥
    other may r (other_edition o) q = omega (arith, ap number_of q)
    other may r (misshapen o m) q = omega (arith, ap number_of q)
    other may r (no_number k o m n) q = omega (arith, ap number_of q)
    other may r (card_row e k o m n h) q = omega (arith, ap number_of q, number_at_16 _ refl k h)

-- and the number that is given is that of the rows
pub read_number : (may : MayCome) (bs : List ℕ) (x : Result Front Refusal) → x ≡ read_of may bs → refusal_number x ≡ first_number (read_rows may bs)
unfolding read_of
read_number may bs x e = ap refusal_number e ∙ number_of_rows (read_rows may bs) _
