-- The statements of this crate's theorems. Those of the first part speak of one call, what was asked and what is answered; then come those of writer
-- and reader together, and of a line's bytes. A statement has its name in small letters in proofs/, where it is proved, and in the contract that
-- promises it.
use Rattle.std.specs.Prelude.{◌≡◌, false, List, ◌∷◌, [], ◌++◌, ◌↔◌, ℕ, ◌+◌, ◌^◌, ◌≤◌, ◌<◌, length, Result, Ok, Err, IfOk}
use Rattle.quantity.specs.Refusals.{NoneApplies}
use Rattle.quantity.specs.declared.refusal.Refusal.{Refusal}
use Rattle.quantity.specs.declared.refusal.Refusal.TheVariants as R
use Rattle.buffer.specs.Putting.{buffer_after}
use Rattle.buffer.specs.Theorems.{Fits}
use Rattle.meter.specs.Edition.{is_other_edition}
use Rattle.lines.specs.Bytes.{line_feed, comma, digit_zero}
use Rattle.lines.specs.Number.{most_digits, some_long, some_nonzero}
use Rattle.lines.specs.Columns.{due_first, tells_other, IsCount, field_text}
use Rattle.lines.specs.Line.{word_of, text_of, numbers_of, lacked_of, bytes_of, opening_in, opening_length, content_rows, has_other_pressure}
use Rattle.lines.specs.Reading.{front_of, read_of}
use Rattle.lines.specs.Writing.{written_of}
use Rattle.lines.specs.RoundTrip.{ReadsBack, WritesBack, Cause}
use Rattle.lines.specs.declared.line.EditionLine.{EditionLine}
use Rattle.lines.specs.declared.numbers.NumbersOf.{NumbersOf}
use Rattle.lines.specs.declared.line.Layout.{Layout}
use Rattle.lines.specs.declared.line.Front.{Front}
use Rattle.lines.specs.declared.line.Line.TheVariants as L
use Rattle.lines.specs.declared.line.MayCome.{MayCome}

-- ---- of one answer

-- A line's bytes tell all of it: the totals that its edition lacks are 0, and a card has the pressure of every file.
pub record TellsAll (line : EditionLine) : Type 0 where
  pub lacked_zero : some_nonzero (lacked_of line) ≡ false
  pub pressure : has_other_pressure line.line ≡ false

-- What makes a line one that can be written: its edition exists, no row on what it says applies, no number on it has over 18 digits, and its bytes
-- tell all of it.
pub record CanBeWritten (line : EditionLine) : Type 0 where
  pub edition : is_other_edition line.edition ≡ false
  pub content : NoneApplies (content_rows line.line)
  pub short : some_long (numbers_of line) ≡ false
  pub tells_all : TellsAll line

-- The writer answers the position next exactly where the line can be written and fits in up to there.
abbrev pub WrittenExactly : ℕ → ℕ → EditionLine → Result ℕ Refusal → Type 0
WrittenExactly size at line answer = (next : ℕ) → (answer ≡ Ok next) ↔ (CanBeWritten line × Fits size at (length (bytes_of line)) next)

-- The reader gives a refusal exactly where that refusal's own condition is the first that holds.
abbrev pub RefusedExactly : MayCome → List ℕ → Result Front Refusal → Type 0
RefusedExactly may bs answer = (r : Refusal) → (answer ≡ Err r) ↔ Cause bs may r

-- No line is refused with 77 by the reader: a card that is read has the pressure of every file, whose water table row 14 has asked about before. So of
-- a card's own numbers only 10 to 18 can come.
abbrev pub NeverForPressure : Result Front Refusal → Type 0
NeverForPressure answer = answer ≡ Err R.Pressure → ⊥

-- A line that was read takes at least one byte and no more than there are.
abbrev pub ReadWithin : List ℕ → Result Front Refusal → Type 0
ReadWithin bs answer = IfOk answer (λ front. (1 ≤ front.size) × (front.size ≤ length bs))

-- A line of numbers, with what follows it: the first field that is due, a right count of numbers of at most 18 digits, and the line feed; and the edition
-- that is told, if one is, exists.
pub record IsNumbersLine (what : NumbersOf) (bs ns : List ℕ) : Type 0 where
  pub known : tells_other what ≡ false
  pub rest : List ℕ
  pub bytes : bs ≡ text_of (due_first what) ns ++ rest
  pub short : some_long ns ≡ false
  pub counted : IsCount what (length ns)

-- The reader of numbers answers numbers exactly where their line stands at the front.
abbrev pub NumbersExactly : NumbersOf → List ℕ → Result (List ℕ) Refusal → Type 0
NumbersExactly what bs answer = (ns : List ℕ) → (answer ≡ Ok ns) ↔ IsNumbersLine what bs ns

-- A number is written up to next exactly where it has at most 18 digits and fits in up to there with its comma.
abbrev pub FieldExactly : ℕ → ℕ → ℕ → Result ℕ Refusal → Type 0
FieldExactly size at n answer = (next : ℕ) → (answer ≡ Ok next) ↔ ((n < 10 ^ most_digits) × Fits size at (length (field_text n)) next)

-- ---- of writer and reader together

-- For every buffer, position and line: what was written is read back.
abbrev pub WrittenThenRead : Type 0
WrittenThenRead =
    (buf : List ℕ) (at : ℕ) (line : EditionLine) (next : ℕ)
    → written_of (length buf) at line ≡ Ok next → ReadsBack (buffer_after buf at (bytes_of line) (Ok next)) at line next

-- For all bytes, whatever line is due: what was read is written as it was.
abbrev pub ReadThenWritten : Type 0
ReadThenWritten = (may : MayCome) (bs : List ℕ) (line : EditionLine) (n : ℕ) → read_of may bs ≡ front_of line n → WritesBack may bs line n

-- ---- of a line's bytes

-- Two lines are the same; openings are of the same edition too, which stands in their bytes and in no other line's.
pub record SameLine (k l : EditionLine) : Type 0 where
  pub line : k.line ≡ l.line
  pub edition : (layout : Layout) → k.line ≡ L.Opening layout → k.edition ≡ l.edition

-- Bytes that begin with one line's bytes begin with no other's. It holds in any editions, and also of lines that the writer refuses, if their bytes
-- tell all of them.
abbrev pub OneLine : Type 0
OneLine =
    (k l : EditionLine) (s t : List ℕ) → TellsAll k → TellsAll l → bytes_of k ++ s ≡ bytes_of l ++ t → SameLine k l × (s ≡ t)

-- The opening of an edition is its layout's word, a comma, the edition's digit and a line feed, which are 14 bytes.
abbrev pub OpeningBytes : Type 0
OpeningBytes =
    (layout : Layout) (e : ℕ) → is_other_edition e ≡ false →
    (bytes_of (opening_in layout e) ≡ word_of layout ++ (comma ∷ (digit_zero + e) ∷ line_feed ∷ []))
    × (length (bytes_of (opening_in layout e)) ≡ opening_length)
