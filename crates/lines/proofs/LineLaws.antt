-- A line is its kind and its numbers.
-- Assumes nothing.
use mathlib.Core.Path.{◌≡◌, refl, sym, ap, ◌∙◌}
use mathlib.Core.Bool.{Bool, true, false, cond}
use mathlib.Core.List.{List, [], ◌∷◌, ◌++◌}
use Prim.Native.Nat.{ℕ, ◌≤◌}
use native.Mathlib.Omega.{arith}
use lib.Dec.{eqb}
use lib.ListN.{length, get_or, take}
use lib.Seq.{length-take-le}
use borrow.Author.Tests.{eqb-true, not-false}
use Rattle.meter.specs.Edition.{keeps_seconds, counts_cold}
use Rattle.meter.specs.Card.{fields_of}
use Rattle.meter.specs.declared.card.Card.{Card}
use Rattle.meter.specs.Sample.{sample_numbers}
use Rattle.meter.specs.declared.sample.Sample.{Sample}
use Rattle.meter.proofs.Elements.{all as all-elements}
use Rattle.lines.specs.Number.{some_nonzero}
use Rattle.lines.specs.Line.{LineKind, opening, card, sample, totals, word_of, card_line_fields, file_pressure, totals_fields, kind_of, first_field, all_numbers_of, numbers_of, lacked_of, count_of, in_edition, has_other_pressure, card_at, sample_from, line_of}
use Rattle.lines.specs.Inside.Parts.{most_later}
use Rattle.lines.specs.Theorems.{TellsAll}
use Rattle.lines.specs.declared.line.Layout.{Layout}
use Rattle.lines.specs.declared.line.Layout.TheVariants.{Lines, Columns}
use Rattle.lines.specs.declared.line.Line.{Line}
use Rattle.lines.specs.declared.line.Line.TheVariants as L
use Rattle.lines.specs.declared.line.EditionLine.{EditionLine}
use Rattle.lines.proofs.Shape.{Plain}
use Rattle.lines.proofs.Shown.{as_shown, shown_first}
use Rattle.lines.proofs.Splitting.{lacks}

-- the same card with that pressure named
pub at_file_pressure : (c : Card) → has_other_pressure (L.Card c) ≡ false → c ≡ card_at (fields_of c) file_pressure
unfolding has_other_pressure card_at fields_of
at_file_pressure c h = ap (card_at (fields_of c)) (eqb-true c.pressure file_pressure (not-false (eqb c.pressure file_pressure) h))

-- the line of a card whose fields are the numbers of line C and that pressure
pub card_line : (c : Card) (ns : List ℕ) → length ns ≡ card_line_fields → fields_of c ≡ ns ++ (file_pressure ∷ []) → L.Card c ≡ line_of card ns
unfolding line_of card_at fields_of
card_line c ns n e =
    ap (λ (l : List ℕ). L.Card (card_at l (get_or l card_line_fields 0)))
    (e ∙ ap (λ (l : List ℕ). l ++ (file_pressure ∷ [])) (sym (all-elements ns card_line_fields n)))

-- the line of a sample's numbers
pub sample_line : (s : Sample) (ns : List ℕ) → sample_numbers s ≡ ns → L.Sample s ≡ line_of sample ns
unfolding line_of sample_numbers
sample_line s ns e = ap (λ (l : List ℕ). L.Sample (sample_from l)) e

-- line E has no more numbers in any edition than in the newest
pub totals_few : (e : ℕ) → count_of e totals ≤ most_later
unfolding count_of
totals_few e = by (counts_cold e) (keeps_seconds e)
  where
    by : (counts keeps : Bool) → cond counts totals_fields (cond keeps 5 4) ≤ most_later
    by true keeps = omega arith
    by false true = omega arith
    by false false = omega arith

-- LAW: the line of a line's kind and numbers is that line, where its bytes tell all of it
pub line_of_lem : (line : EditionLine) → TellsAll line → line_of (kind_of line.line) (numbers_of line) ≡ line.line
unfolding line_of kind_of count_of all_numbers_of numbers_of lacked_of has_other_pressure card_at fields_of sample_numbers
line_of_lem l h = by l.edition l.line h
  where
    by : (e : ℕ) (line : Line) → TellsAll (in_edition e line) → line_of (kind_of line) (numbers_of (in_edition e line)) ≡ line
    by e (L.Opening w) h = refl
    by e (L.Card c) h = ap L.Card (sym (at_file_pressure c h.pressure))
    by e (L.Sample s) h = refl
    by e (L.End t) h =
        let all = all_numbers_of (in_edition e (L.End t)) in
        let same : (i : ℕ) → get_or (take (count_of e totals) all) i 0 ≡ get_or all i 0 = λ i. as_shown (count_of e totals) all i h.lacked_zero in
        λ j.
        L.End
        (record {
          accepted = same 0 j;
          refused = same 1 j;
          heat_register = same 2 j;
          volume = same 3 j;
          kept_seconds = same 4 j;
          cold_register = same 5 j;
        })

-- a line has as many numbers as its kind has in its edition
pub numbers_counted : (l : EditionLine) → length (numbers_of l) ≡ count_of l.edition (kind_of l.line)
unfolding kind_of count_of all_numbers_of numbers_of fields_of sample_numbers
numbers_counted l = by l.edition l.line
  where
    by : (e : ℕ) (line : Line) → length (numbers_of (in_edition e line)) ≡ count_of e (kind_of line)
    by e (L.Opening w) = refl
    by e (L.Card c) = refl
    by e (L.Sample s) = refl
    by e (L.End t) = length-take-le (count_of e totals) (all_numbers_of (in_edition e (L.End t))) (totals_few e)

pub kind_line : (k : LineKind) (ns : List ℕ) → kind_of (line_of k ns) ≡ k
unfolding kind_of line_of
kind_line (opening w) ns = refl
kind_line card ns = refl
kind_line sample ns = refl
kind_line totals ns = refl

-- the line E of as many numbers as it has
totals_line : (e : ℕ) (ns : List ℕ) → length ns ≡ count_of e totals →
    (numbers_of (in_edition e (line_of totals ns)) ≡ ns) × (some_nonzero (lacked_of (in_edition e (line_of totals ns))) ≡ false)
unfolding numbers_of lacked_of all_numbers_of kind_of line_of
totals_line e ns c = shown_first ns 0 (count_of e totals) most_later (omega arith) (totals_few e)

-- LAW: the numbers of the line of a kind are those that it was made of. The opening's is its edition.
pub numbers_line : (e : ℕ) (k : LineKind) (ns : List ℕ) → ((w : Layout) → k ≡ opening w → ns ≡ e ∷ []) → length ns ≡ count_of e k → numbers_of (in_edition e (line_of k ns)) ≡ ns
unfolding numbers_of all_numbers_of kind_of line_of count_of card_at fields_of sample_numbers
numbers_line e (opening w) ns h c = sym (h w refl)
numbers_line e card ns h c = all-elements ns (count_of e card) c
numbers_line e sample ns h c = all-elements ns (count_of e sample) c
numbers_line e totals ns h c = (totals_line e ns c).0

-- and its bytes tell all of it
pub line_tells_all : (e : ℕ) (k : LineKind) (ns : List ℕ) → length ns ≡ count_of e k → TellsAll (in_edition e (line_of k ns))
unfolding lacked_of has_other_pressure all_numbers_of kind_of line_of count_of card_at fields_of sample_numbers
line_tells_all e (opening w) ns c = record { lacked_zero = refl; pressure = refl }
line_tells_all e card ns c = record { lacked_zero = refl; pressure = refl }
line_tells_all e sample ns c = record { lacked_zero = refl; pressure = refl }
line_tells_all e totals ns c = record { lacked_zero = (totals_line e ns c).1; pressure = refl }

pub plain : (k : LineKind) → Plain (first_field k)
unfolding first_field word_of lacks
plain (opening Lines) = record { no_comma = refl; no_end = refl }
plain (opening Columns) = record { no_comma = refl; no_end = refl }
plain card = record { no_comma = refl; no_end = refl }
plain sample = record { no_comma = refl; no_end = refl }
plain totals = record { no_comma = refl; no_end = refl }
