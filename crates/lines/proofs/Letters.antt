-- A line by what follows its letter, as the code reads it.
-- Assumes nothing.
use mathlib.Core.Path.{◌≡◌, refl, sym, ap, ◌∙◌}
use mathlib.Core.Bool.{false}
use mathlib.Core.List.{List, [], ◌∷◌, ◌++◌, map}
use Prim.Native.Nat.{ℕ, ◌+◌, ◌<◌}
use native.Mathlib.Omega.{arith}
use lib.ListN.{length, get_or, drop}
use borrow.Author.Tests.{eq-eqb, ne_eqb}
use Rattle.std.proofs.Common.{Result, Ok, Err}
use Rattle.quantity.specs.Refusals.{first_of}
use Rattle.quantity.specs.declared.refusal.Refusal.{Refusal}
use Rattle.quantity.specs.declared.refusal.Refusal.TheVariants as R
use Rattle.quantity.proofs.Rows.{parts}
use Rattle.std.specs.Result.{result_and}
use Rattle.lines.specs.Bytes.{line_feed, comma}
use Rattle.lines.specs.Number.{value_of}
use Rattle.lines.specs.Line.{LineKind, opening, card, sample, totals, first_field, in_edition, content_rows, count_of, card_at, line_of}
use Rattle.lines.specs.Reading.{front_of, same_bytes, until_end, is_ended, size_of, with_first, split, fields_in, first_in, others_in, numbers_in, is_misshapen, shape_rows, line_rows, answer_of}
use Rattle.lines.specs.Inside.Parts.{NumbersRead, all_read, line_refused, after_letter}
use Rattle.lines.specs.declared.line.Line.{Line}
use Rattle.lines.proofs.Splitting.{split_parted}
use Rattle.lines.proofs.Shown.{AreZero, zero_after}
use Rattle.lines.proofs.Faults.{misshapen_first, first_of_lem, others_first}

-- ---- what a letter in front changes

module _ (b : ℕ) (after : List ℕ) (apart : comma < b) where
  fields_letter : fields_in (b ∷ after) ≡ with_first b (fields_in after)
  unfolding fields_in until_end split
  fields_letter = simp (ne_eqb b line_feed (λ e. omega arith), ne_eqb b comma (λ e. omega arith))

  first_letter : first_in (b ∷ after) ≡ b ∷ first_in after
  unfolding fields_in
  first_letter = ap (λ (fs : List (List ℕ)). get_or fs 0 []) fields_letter ∙ first_of_lem b (fields_in after) (split_parted (until_end after))

  pub others_letter : others_in (b ∷ after) ≡ others_in after
  unfolding fields_in
  others_letter = ap (λ (fs : List (List ℕ)). drop 1 fs) fields_letter ∙ others_first b (fields_in after) (split_parted (until_end after))

  same_letter : same_bytes (first_in (b ∷ after)) (b ∷ []) ≡ same_bytes (first_in after) []
  unfolding same_bytes
  same_letter = rw first_letter (simp (eq-eqb b b refl))

  numbers_letter : numbers_in (b ∷ after) ≡ numbers_in after
  numbers_letter = ap (λ (fs : List (List ℕ)). map value_of fs) others_letter

  pub size_letter : size_of (b ∷ after) ≡ size_of after + 1
  unfolding size_of until_end
  size_letter = simp (ne_eqb b line_feed (λ e. omega arith)) (omega arith)

  -- a line's shape, by what follows its letter
  pub shape_letter : (count : ℕ) → shape_rows (b ∷ []) count (b ∷ after) ≡ shape_rows [] count after
  unfolding shape_rows is_misshapen is_ended
  shape_letter count = rw (others_letter, same_letter) (simp (ne_eqb b line_feed (λ e. omega arith)))

-- the reader's rows, by what follows the letter of a kind
pub by_letter : (e : ℕ) (k : LineKind) (b : ℕ) (after : List ℕ) → comma < b → first_field k ≡ b ∷ []
    → answer_of (in_edition e (line_of k (numbers_in (b ∷ after)))) (size_of (b ∷ after)) (first_of (line_rows e k (b ∷ after)))
    ≡ after_letter e k after
unfolding line_rows after_letter
by_letter e k b after c f = rw (f, shape_letter b after c (count_of e k), numbers_letter b after c, size_letter b after c)

-- ---- what `fill_numbers` answered

module _ (e : ℕ) (k : LineKind) (after : List ℕ) where
  abbrev shape : Result Unit Refusal
  shape = first_of (shape_rows [] (count_of e k) after)

  abbrev said : Line
  said = line_of k (numbers_in after)

  by_shape : after_letter e k after ≡ answer_of (in_edition e said) (size_of after + 1) (result_and shape (first_of (content_rows said)))
  unfolding after_letter
  by_shape = ap (answer_of (in_edition e said) (size_of after + 1)) (parts (shape_rows [] (count_of e k) after) (content_rows said))

  refused_shape : (r : Refusal) → shape ≡ Err r → after_letter e k after ≡ Err r
  refused_shape r h = by_shape ∙ rw h

-- a first field that goes on after the letter is refused with 61
pub other_first : (e : ℕ) (k : LineKind) (b : ℕ) (after : List ℕ) → comma < b → same_bytes (first_in (b ∷ after)) (b ∷ []) ≡ false → after_letter e k after ≡ Err R.Shape
unfolding shape_rows first_of
other_first e k b after c h =
    refused_shape e k after R.Shape (simp (misshapen_first [] (count_of e k) after (sym (same_letter b after c) ∙ h)))

-- zeros after a line's numbers change nothing
pub padded : (k : LineKind) (ns zs : List ℕ) → AreZero zs → line_of k (ns ++ zs) ≡ line_of k ns
unfolding line_of card_at
padded (opening w) ns zs z = refl
padded card ns zs z = simp (zero_after ns zs z)
padded sample ns zs z = simp (zero_after ns zs z)
padded totals ns zs z = simp (zero_after ns zs z)

all_numbers : (after out : List ℕ) (x : Result ℕ Refusal) (n : ℕ) → NumbersRead after out x → x ≡ Ok n
    → (first_of (shape_rows [] (length out) after) ≡ Ok tt) × ((out ≡ numbers_in after) × (n ≡ size_of after + 1))
all_numbers after out x n (all_read e f) g = (e, (f, sym (cc g)))
all_numbers after out x n (line_refused r e) g = absurd (let z : ◌≡◌ {A = ℕ} 0 1 = cc g in omega arith)

no_numbers : (after out : List ℕ) (x : Result ℕ Refusal) (r : Refusal) → NumbersRead after out x → x ≡ Err r → first_of (shape_rows [] (length out) after) ≡ Err r
no_numbers after out x r (all_read e f) g = absurd (let z : ◌≡◌ {A = ℕ} 0 1 = cc g in omega arith)
no_numbers after out x r (line_refused s e) g = let k : s ≡ r = cc g in rw k at e

module _ (e : ℕ) (k : LineKind) (after out : List ℕ) (x : Result ℕ Refusal) (h : NumbersRead after out x) (c : length out ≡ count_of e k) where
  pub none_after : (r : Refusal) → x ≡ Err r → Err r ≡ after_letter e k after
  none_after r g = sym (refused_shape e k after r (rw c at (no_numbers after out x r h g)))

  -- where the numbers with what is put after them say the line that they say
  module _ (n : ℕ) (g : x ≡ Ok n) (line : Line) (f : line ≡ line_of k out) where
    content_decides : answer_of (in_edition e line) n (first_of (content_rows line)) ≡ after_letter e k after
    content_decides =
        let a = all_numbers after out x n h g in
        let same : line ≡ line_of k (numbers_in after) = f ∙ ap (line_of k) a.1.0 in
        let accepted : first_of (shape_rows [] (count_of e k) after) ≡ Ok tt = rw c at a.0 in
        rw (same, a.1.1) (sym (by_shape e k after ∙ rw accepted))

    pub read_after : Ok tt ≡ first_of (content_rows line) → front_of (in_edition e line) n ≡ after_letter e k after
    read_after o = ap (answer_of (in_edition e line) n) o ∙ content_decides

    pub refused_after : (r : Refusal) → Err r ≡ first_of (content_rows line) → Err r ≡ after_letter e k after
    refused_after r o = ap (answer_of (in_edition e line) n) o ∙ content_decides
