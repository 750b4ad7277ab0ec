-- The lines of a file and their bytes (docs/FORMAT.md, "Bytes, lines and numbers" and the sections on the lines C, S and E). A line has a first
-- field, then its numbers, each behind a comma, and then a line feed. Each line stands in an edition, which decides how many totals line E has.
use Rattle.std.specs.Prelude.{ℕ, Bool, false, not, cond, eqb, List, [], ◌∷◌, ◌++◌, map, get_or, take, drop}
use Rattle.quantity.specs.declared.refusal.Row.{Row}
use Rattle.meter.specs.Edition.{keeps_seconds, counts_cold}
use Rattle.meter.specs.Card.{fields_of, card_rows}
use Rattle.meter.specs.Sample.{sample_numbers, sample_fields}
use Rattle.meter.specs.declared.card.Card.{Card}
use Rattle.meter.specs.declared.sample.Sample.{Sample}
use Rattle.meter.specs.declared.state.Meter.{Meter}
use Rattle.lines.specs.Bytes.{line_feed, comma, letter_c, letter_e, letter_s, archive_word, columns_word}
use Rattle.lines.specs.Number.{decimal}
use Rattle.lines.specs.declared.line.Layout.{Layout}
use Rattle.lines.specs.declared.line.Layout.TheVariants.{Lines, Columns}
use Rattle.lines.specs.declared.line.Line.{Line}
use Rattle.lines.specs.declared.line.Line.TheVariants as L
use Rattle.lines.specs.declared.line.EditionLine.{EditionLine}
use Rattle.lines.specs.declared.line.Totals.{Totals}

-- The four kinds of line: the opening, which tells in which layout a file has its samples; the card's line C; a sample's line S; and line E, with the totals.
pub data LineKind : Type 0 where
  opening : Layout → LineKind
  card : LineKind
  sample : LineKind
  totals : LineKind

-- the kind that a line is of
unfoldable pub kind_of : Line → LineKind
kind_of (L.Opening layout) = opening layout
kind_of (L.Card c) = card
kind_of (L.Sample s) = sample
kind_of (L.End t) = totals

-- the word that tells a layout
unfoldable pub word_of : Layout → List ℕ
word_of Lines = archive_word
word_of Columns = columns_word

-- what a line of a kind begins with: the layout's word in the opening, a letter in the others
unfoldable pub first_field : LineKind → List ℕ
first_field (opening layout) = word_of layout
first_field card = letter_c ∷ []
first_field sample = letter_s ∷ []
first_field totals = letter_e ∷ []

-- How many of the card's numbers stand on line C: all but the last, the pressure.
abbrev pub card_line_fields : ℕ
card_line_fields = 12

-- The pressure of every meter that a file tells of, in bar: line C has no field for it.
abbrev pub file_pressure : ℕ
file_pressure = 16

-- how many totals line E has in the newest edition; none has more
abbrev pub totals_fields : ℕ
totals_fields = 6

-- How many numbers follow the first field. The opening has one, its edition. Line E has four totals in every edition; a fifth, the kept seconds,
-- where the edition keeps them, and a sixth, the cold register, where it counts cold.
unfoldable pub count_of : ℕ → LineKind → ℕ
count_of e (opening layout) = 1
count_of e card = card_line_fields
count_of e sample = sample_fields
count_of e totals = cond (counts_cold e) totals_fields (cond (keeps_seconds e) 5 4)

-- the totals that a meter has come to
abbrev pub totals_of : Meter → Totals
totals_of m = record {
  accepted = m.accepted;
  refused = m.refused;
  heat_register = m.heat_register;
  volume = m.volume;
  kept_seconds = m.kept_seconds;
  cold_register = m.cold_register;
}

-- the totals in the order of line E
abbrev pub totals_numbers : Totals → List ℕ
totals_numbers t = t.accepted ∷ t.refused ∷ t.heat_register ∷ t.volume ∷ t.kept_seconds ∷ t.cold_register ∷ []

-- All numbers that a line can have, in their order: the opening its edition, line C the card's but for the pressure, a line S the sample's, and
-- line E all six totals, also those that its edition lacks.
unfoldable pub all_numbers_of : EditionLine → List ℕ
all_numbers_of l = by l.line
  where
    by : Line → List ℕ
    by (L.Opening layout) = l.edition ∷ []
    by (L.Card c) = take card_line_fields (fields_of c)
    by (L.Sample s) = sample_numbers s
    by (L.End t) = totals_numbers t

-- Those that stand on it in its edition.
unfoldable pub numbers_of : EditionLine → List ℕ
numbers_of l = take (count_of l.edition (kind_of l.line)) (all_numbers_of l)

-- Those that do not: of line E the totals that its edition lacks, of the other lines none.
unfoldable pub lacked_of : EditionLine → List ℕ
lacked_of l = drop (count_of l.edition (kind_of l.line)) (all_numbers_of l)

-- fields, each behind a comma
unfoldable pub after_commas : List (List ℕ) → List ℕ
after_commas [] = []
after_commas (f ∷ fs) = comma ∷ (f ++ after_commas fs)

-- a line's text: its first field, the numbers behind it, and the line feed
unfoldable pub text_of : List ℕ → List ℕ → List ℕ
text_of first numbers = first ++ (after_commas (map decimal numbers) ++ (line_feed ∷ []))

-- the bytes of a line in its edition
unfoldable pub bytes_of : EditionLine → List ℕ
bytes_of l = text_of (first_field (kind_of l.line)) (numbers_of l)

-- A line in an edition.
abbrev pub in_edition : ℕ → Line → EditionLine
in_edition e line = record { edition = e; line = line }

-- An edition's opening of a layout.
abbrev pub opening_in : Layout → ℕ → EditionLine
opening_in layout e = in_edition e (L.Opening layout)

-- The rows on what a line says, for reader and writer alike, a row being a refusal with its condition. A card is refused by its own, 10 to 18 and
-- 77. A sample may be any four numbers, and the totals may be any: only the audit can tell whether they are right.
unfoldable pub content_rows : Line → List Row
content_rows (L.Opening layout) = []
content_rows (L.Card c) = card_rows c
content_rows (L.Sample s) = []
content_rows (L.End t) = []

-- Whether a line has a card of another pressure than that of every file, which its bytes do not tell.
unfoldable pub has_other_pressure : Line → Bool
has_other_pressure (L.Opening layout) = false
has_other_pressure (L.Card c) = not (eqb c.pressure file_pressure)
has_other_pressure (L.Sample s) = false
has_other_pressure (L.End t) = false

-- how many bytes an opening has, whatever the layout and the edition, its line feed among them
abbrev pub opening_length : ℕ
opening_length = 14

-- The card of the twelve numbers of line C and a pressure in bar. A number that is not there is taken for 0.
unfoldable pub card_at : List ℕ → ℕ → Card
card_at ns pressure = record {
  serial = get_or ns 0 0;
  place = get_or ns 1 0;
  sensor = get_or ns 2 0;
  ml_per_pulse = get_or ns 3 0;
  theta_min = get_or ns 4 0;
  theta_max = get_or ns 5 0;
  delta_min = get_or ns 6 0;
  delta_max = get_or ns 7 0;
  qi = get_or ns 8 0;
  qp = get_or ns 9 0;
  qs = get_or ns 10 0;
  ps = get_or ns 11 0;
  pressure = pressure;
}

-- The card of a line C: it has the pressure of every file.
abbrev pub card_of : List ℕ → Card
card_of ns = card_at ns file_pressure

-- The sample of the four numbers of a line S.
abbrev pub sample_from : List ℕ → Sample
sample_from ns = record { pulses = get_or ns 0 0; seconds = get_or ns 1 0; supply_reading = get_or ns 2 0; return_reading = get_or ns 3 0 }

-- The totals of the numbers of line E. Those that are not there, since the edition lacks them, are 0.
abbrev pub totals_from : List ℕ → Totals
totals_from ns = record {
  accepted = get_or ns 0 0;
  refused = get_or ns 1 0;
  heat_register = get_or ns 2 0;
  volume = get_or ns 3 0;
  kept_seconds = get_or ns 4 0;
  cold_register = get_or ns 5 0;
}

-- The line of a kind with these numbers. The opening's only number is its edition, which stands beside the line and not in it. `line_of_lem` and
-- `numbers_line` of proofs/LineLaws.antt tie this to `numbers_of`.
unfoldable pub line_of : LineKind → List ℕ → Line
line_of (opening layout) ns = L.Opening layout
line_of card ns = L.Card (card_of ns)
line_of sample ns = L.Sample (sample_from ns)
line_of totals ns = L.End (totals_from ns)
