-- The round trips: what is written is read back, what is read is what is written, and a line's bytes are its own.
-- Assumes nothing.
use Rattle.std.proofs.Common.{Result, Ok, Err}
use Rattle.buffer.specs.Putting.{put_at, buffer_after}
use Rattle.buffer.proofs.Puts.{put_from}
use Rattle.buffer.proofs.Rows.{refused_for_buffer}
use Rattle.lines.specs.declared.line.Front.{Front}
use mathlib.Core.Path.{◌≡◌, refl, sym, ap, ◌∙◌, subst}
use mathlib.Core.Bool.{Bool, true, false, cond}
use mathlib.Core.List.{List, [], ◌∷◌, ◌++◌, map}
use Prim.Native.Nat.{ℕ, ◌+◌, ◌-◌, ◌^◌, ◌≤◌, ◌<◌}
use native.Mathlib.Omega.{arith}
use lib.Dec.{eqb}
use lib.ListN.{length, get_or, drop, length-append}
use lib.Seq.{take_at, drop-drop, drop-append_seam}
use borrow.Author.Tests.{lt-leb}
use Rattle.quantity.specs.Refusals.{first_of, NoneApplies}
use Rattle.quantity.specs.declared.refusal.Refusal.{Refusal}
use Rattle.quantity.proofs.Rows.{answered, parts, no_refusal, none_applies, none_of_parts}
use Rattle.meter.specs.Edition.{is_other_edition}
use Rattle.lines.specs.Bytes.{letter_a, letter_c, letter_h, letter_s}
use Rattle.lines.specs.Number.{decimal, most_digits, some_long}
use Rattle.lines.specs.Line.{LineKind, opening, card, sample, totals, kind_of, word_of, first_field, all_numbers_of, numbers_of, lacked_of, text_of, bytes_of, opening_in, content_rows, has_other_pressure, count_of, line_of, opening_length}
use Rattle.lines.specs.Reading.{front_of, same_bytes, size_of, fields_in, first_in, numbers_in, shape_rows, edition_in, due_kind, line_in, line_rows, later_rows, read_rows, read_of, rest_of}
use Rattle.lines.specs.Writing.{Writable, own_rows, written_of}
use Rattle.lines.specs.RoundTrip.{told_in, told_of, WritesBack}
use Rattle.lines.specs.Theorems.{CanBeWritten, WrittenThenRead, ReadThenWritten, ReadWithin, OneLine}
use Rattle.lines.specs.declared.line.Line.{Line}
use Rattle.lines.specs.declared.line.Line.TheVariants as L
use Rattle.lines.specs.declared.line.EditionLine.{EditionLine}
use Rattle.lines.specs.declared.line.Layout.{Layout}
use Rattle.lines.specs.declared.line.Layout.TheVariants.{Lines, Columns}
use Rattle.lines.specs.declared.line.MayCome.{MayCome}
use Rattle.lines.specs.declared.line.MayCome.TheVariants as M
use Rattle.lines.proofs.Shape.{line_bytes, shape_forth}
use Rattle.lines.proofs.LineLaws.{line_of_lem, kind_line, numbers_line, line_tells_all}
use Rattle.lines.proofs.LineBytes.{line_bytes_lem, bytes_fields, bytes_numbers, bytes_size, bytes_shape}
use Rattle.lines.proofs.Openings.{edition_most, opening_length_lem, opened_exactly}
use Rattle.lines.proofs.ReaderRows.{opening_front, opening_sized, opening_read, by_due}
use Rattle.lines.proofs.WriterRows.{can_be_written, written_exactly, writable_exactly}

-- ---- what is written is read back

reads_opening : (w : Layout) (e : ℕ) (rest : List ℕ) → is_other_edition e ≡ false
    → read_of (M.Opening w) (bytes_of (opening_in w e) ++ rest) ≡ front_of (opening_in w e) (length (bytes_of (opening_in w e)))
reads_opening w e rest o =
    let bs : List ℕ = bytes_of (opening_in w e) ++ rest in
    opening_read w bs e o ((opened_exactly w bs e o).1 (take_at (bytes_of (opening_in w e)) rest opening_length (opening_length_lem w e o)))
    ∙ rw (opening_length_lem w e o)

-- a line with a letter, where one of its kind and its edition is due
module _ (may : MayCome) (line : EditionLine) (rest : List ℕ) where
  abbrev bs : List ℕ
  bs = bytes_of line ++ rest

  reads_due : edition_in may bs ≡ line.edition → due_kind may bs ≡ kind_of line.line → later_rows may bs ≡ line_rows (edition_in may bs) (due_kind may bs) bs
      → CanBeWritten line → read_of may bs ≡ front_of line (length (bytes_of line))
  unfolding line_rows
  reads_due p d later w =
      let k : LineKind = kind_of line.line in
      let same : line_of k (numbers_in bs) ≡ line.line = ap (line_of k) (bytes_numbers line rest) ∙ line_of_lem line w.tells_all in
      let rows : first_of (shape_rows (first_field k) (count_of line.edition k) bs ++ content_rows (line_of k (numbers_in bs))) ≡ Ok tt =
      parts (shape_rows (first_field k) (count_of line.edition k) bs) (content_rows (line_of k (numbers_in bs)))
      ∙ rw (bytes_shape line rest w.short, same) (no_refusal (content_rows line.line) w.content) in
      by_due may bs (rw p w.edition) k d later ∙ rw (p, rows, same, bytes_size line rest)

first_read : (line : EditionLine) (rest : List ℕ) → first_in (bytes_of line ++ rest) ≡ first_field (kind_of line.line)
first_read line rest = ap (λ (fs : List (List ℕ)). get_or fs 0 []) (bytes_fields line rest)

-- LAW: the bytes of a line that no row of the writer refuses are read as that line
pub reads_line : (line : EditionLine) (rest : List ℕ) → CanBeWritten line → read_of (told_of line) (bytes_of line ++ rest) ≡ front_of line (length (bytes_of line))
unfolding told_in same_bytes edition_in due_kind later_rows kind_of first_field
reads_line l rest w = by l.edition l.line w
  where
    by : (e : ℕ) (line : Line) → CanBeWritten (record { edition = e; line = line })
        → read_of (told_in e line) (bytes_of (record { edition = e; line = line }) ++ rest)
        ≡ front_of (record { edition = e; line = line }) (length (bytes_of (record { edition = e; line = line })))
    by e (L.Opening layout) w = reads_opening layout e rest w.edition
    by e (L.Card c) w = reads_due (M.Card e) (record { edition = e; line = L.Card c }) rest refl refl refl w
    by e (L.Sample s) w =
        let line : EditionLine = record { edition = e; line = L.Sample s } in
        reads_due (M.SampleOrEnd e) line rest refl (rw (first_read line rest)) refl w
    by e (L.End t) w =
        let line : EditionLine = record { edition = e; line = L.End t } in
        reads_due (M.SampleOrEnd e) line rest refl (rw (first_read line rest)) refl w

pub written_then_read : WrittenThenRead
unfolding buffer_after rest_of
written_then_read buf at line next e =
    let w = (written_exactly (length buf) at line (written_of (length buf) at line) refl next).0 e in
    let after : drop at (put_at buf at (bytes_of line)) ≡ bytes_of line ++ drop (at + length (bytes_of line)) buf = put_from buf at (bytes_of line) (omega (arith, w.1.ends, w.1.room)) in
    let size : next - at ≡ length (bytes_of line) = omega (arith, w.1.ends) in
    let place : at + (next - at) ≡ next = omega (arith, w.1.ends) in
    let again : read_of (told_of line) (drop at (put_at buf at (bytes_of line))) ≡ front_of line (next - at) =
    rw (after, size) (reads_line line (drop (at + length (bytes_of line)) buf) w.0) in
    record {
      answer = again;
      rest =
          ap (rest_of (drop at (put_at buf at (bytes_of line)))) again
          ∙ drop-drop (next - at) at (put_at buf at (bytes_of line))
          ∙ ap (λ (i : ℕ). drop i (put_at buf at (bytes_of line))) place;
    }

-- ---- what is read is what is written

-- the line that the bytes are
writes_line : (may : MayCome) (bs : List ℕ) (line : EditionLine) → told_of line ≡ may → bs ≡ bytes_of line ++ drop (size_of bs) bs → CanBeWritten line
    → WritesBack may bs line (size_of bs)
unfolding rest_of
writes_line may bs line t b w = record {
  kind = t;
  bytes = sym b;
  takes = ap size_of b ∙ bytes_size line (drop (size_of bs) bs);
  writable = (writable_exactly line).1 w;
  refused_only = λ size at r e. refused_for_buffer size at (own_rows line) (bytes_of line) r ((can_be_written line).1 w) e;
}

-- after the row of the edition
rows_after : (may : MayCome) (bs : List ℕ) → first_of (read_rows may bs) ≡ Ok tt → (is_other_edition (edition_in may bs) ≡ false) × NoneApplies (later_rows may bs)
unfolding read_rows
rows_after may bs e = none_applies (read_rows may bs) e

-- an edition's opening can be written
opening_can : (w : Layout) (e : ℕ) → is_other_edition e ≡ false → CanBeWritten (opening_in w e)
unfolding content_rows has_other_pressure kind_of count_of all_numbers_of numbers_of lacked_of
opening_can w e o =
    let small : e < 10 ^ most_digits = omega (arith, edition_most e o) in
    record { edition = o; content = tt; short = simp (lt-leb (10 ^ most_digits) e small); tells_all = record { lacked_zero = refl; pressure = refl } }

pub opening_writable : (w : Layout) (e : ℕ) → is_other_edition e ≡ false → Writable (opening_in w e)
opening_writable w e o = (writable_exactly (opening_in w e)).1 (opening_can w e o)

writes_opening : (w : Layout) (bs : List ℕ) → is_other_edition (edition_in (M.Opening w) bs) ≡ false →
    WritesBack (M.Opening w) bs (opening_in w (edition_in (M.Opening w) bs)) (size_of bs)
unfolding told_in
writes_opening w bs o =
    let e : ℕ = edition_in (M.Opening w) bs in
    writes_line (M.Opening w) bs (opening_in w e) refl (rw (opening_sized w bs e o refl) (opening_front w bs e o refl)) (opening_can w e o)

-- a line of a kind that is due
writes_due : (may : MayCome) (e : ℕ) (bs : List ℕ) (k : LineKind) → ((w : Layout) → k ≡ opening w → ⊥) → told_in e (line_of k (numbers_in bs)) ≡ may
    → is_other_edition e ≡ false → NoneApplies (line_rows e k bs) → WritesBack may bs (record { edition = e; line = line_of k (numbers_in bs) }) (size_of bs)
unfolding line_rows
writes_due may e bs k other t o h =
    let line : EditionLine = record { edition = e; line = line_of k (numbers_in bs) } in
    let n = none_of_parts (shape_rows (first_field k) (count_of e k) bs) (content_rows (line_of k (numbers_in bs))) h in
    let l = shape_forth (first_field k) (count_of e k) bs (no_refusal (shape_rows (first_field k) (count_of e k) bs) n.0) in
    let numbers : numbers_of line ≡ numbers_in bs = numbers_line e k (numbers_in bs) (λ w q. absurd (other w q)) l.counted in
    let rest : List ℕ = drop (size_of bs) bs in
    let same : bytes_of line ++ rest ≡ bs =
    line_bytes_lem line rest
    ∙ ap (λ (j : LineKind). line_bytes (first_field j) (numbers_of line) rest) (kind_line k (numbers_in bs))
    ∙ ap (λ (ns : List ℕ). line_bytes (first_field k) ns rest) numbers
    ∙ sym l.bytes in
    writes_line may bs line t (sym same)
    (record { edition = o; content = n.1; short = ap some_long numbers ∙ l.short; tells_all = line_tells_all e k (numbers_in bs) l.counted })

writes_later : (e : ℕ) (bs : List ℕ) (t : Bool) → is_other_edition e ≡ false → NoneApplies (line_rows e (cond t totals sample) bs)
    → WritesBack (M.SampleOrEnd e) bs (record { edition = e; line = line_of (cond t totals sample) (numbers_in bs) }) (size_of bs)
unfolding told_in line_of
writes_later e bs true o h = writes_due (M.SampleOrEnd e) e bs totals (λ w q. let z : ◌≡◌ {A = ℕ} 0 1 = cc q in omega arith) refl o h
writes_later e bs false o h = writes_due (M.SampleOrEnd e) e bs sample (λ w q. let z : ◌≡◌ {A = ℕ} 0 1 = cc q in omega arith) refl o h

-- what the rows accept
writes : (may : MayCome) (bs : List ℕ) → is_other_edition (edition_in may bs) ≡ false → NoneApplies (later_rows may bs) → WritesBack may bs (line_in may bs) (size_of bs)
unfolding line_in edition_in due_kind line_of later_rows told_in
writes (M.Opening w) bs o h = writes_opening w bs o
writes (M.Card e) bs o h = writes_due (M.Card e) e bs card (λ w q. let z : ◌≡◌ {A = ℕ} 0 1 = cc q in omega arith) refl o h
writes (M.SampleOrEnd e) bs o h = writes_later e bs (same_bytes (first_in bs) (first_field totals)) o h

pub read_then_written : ReadThenWritten
unfolding read_of
read_then_written may bs line n e =
    let a = answered (first_of (read_rows may bs)) (record { line = line_in may bs; size = size_of bs }) (record { line = line; size = n }) e in
    let r = rows_after may bs a.0 in
    subst (λ (f : Front). WritesBack may bs f.line f.size) a.1 (writes may bs r.0 r.1)

some_bytes : (line : EditionLine) → 1 ≤ length (bytes_of line)
unfolding bytes_of text_of
some_bytes line = simp length-append (omega arith)

pub front_within : (may : MayCome) (bs : List ℕ) (f : Front) → read_of may bs ≡ Ok f → (1 ≤ f.size) × (f.size ≤ length bs)
unfolding rest_of
front_within may bs f e =
    let w = read_then_written may bs f.line f.size e in
    (omega (arith, w.takes, some_bytes f.line), omega (arith, w.takes, sym (length-append (bytes_of f.line) (drop f.size bs)) ∙ ap length w.bytes))

pub read_within : (may : MayCome) (bs : List ℕ) (x : Result Front Refusal) → x ≡ read_of may bs → ReadWithin bs x
read_within may bs (Ok f) e = front_within may bs f (sym e)
read_within may bs (Err r) e = tt

-- ---- a line's bytes are its own

-- the kind that a first field names
named : List ℕ → LineKind
named f = cond (eqb (get_or f 0 0) letter_h) (opening (cond (eqb (get_or f 4 0) letter_a) Lines Columns)) (cond (eqb (get_or f 0 0) letter_c) card (cond (eqb (get_or f 0 0) letter_s) sample totals))

kind_named : (k : LineKind) → named (first_field k) ≡ k
unfolding named first_field word_of
kind_named (opening Lines) = refl
kind_named (opening Columns) = refl
kind_named card = refl
kind_named sample = refl
kind_named totals = refl

-- an opening's number is its edition
opening_numbers : (k l : EditionLine) → numbers_of k ≡ numbers_of l → k.line ≡ l.line → (w : Layout) → k.line ≡ L.Opening w → k.edition ≡ l.edition
unfolding kind_of count_of all_numbers_of numbers_of
opening_numbers k l e f w o =
    let of_opening : (j : EditionLine) → j.line ≡ L.Opening w → get_or (numbers_of j) 0 0 ≡ j.edition = λ j q. rw q in
    sym (of_opening k o) ∙ ap (λ (ns : List ℕ). get_or ns 0 0) e ∙ of_opening l (sym f ∙ o)

-- lines of one kind with the same numbers have the same bytes
same_text : (k l : EditionLine) → kind_of k.line ≡ kind_of l.line → numbers_of k ≡ numbers_of l → bytes_of k ≡ bytes_of l
unfolding bytes_of
same_text k l p q = ap (λ (j : LineKind). text_of (first_field j) (numbers_of k)) p ∙ ap (text_of (first_field (kind_of l.line))) q

pub one_line : OneLine
one_line k l s t w v e =
    let fields : first_field (kind_of k.line) ∷ map decimal (numbers_of k) ≡ first_field (kind_of l.line) ∷ map decimal (numbers_of l) =
    sym (bytes_fields k s) ∙ ap fields_in e ∙ bytes_fields l t in
    let firsts : first_field (kind_of k.line) ≡ first_field (kind_of l.line) = ap (λ (fs : List (List ℕ)). get_or fs 0 []) fields in
    let kinds : kind_of k.line ≡ kind_of l.line = sym (kind_named (kind_of k.line)) ∙ ap named firsts ∙ kind_named (kind_of l.line) in
    let numbers : numbers_of k ≡ numbers_of l = sym (bytes_numbers k s) ∙ ap numbers_in e ∙ bytes_numbers l t in
    let lines : k.line ≡ l.line =
    sym (line_of_lem k w) ∙ ap (λ (j : LineKind). line_of j (numbers_of k)) kinds ∙ ap (line_of (kind_of l.line)) numbers ∙ line_of_lem l v in
    let bytes : bytes_of k ≡ bytes_of l = same_text k l kinds numbers in
    let rests : s ≡ t =
    sym (drop-append_seam (bytes_of k) s) ∙ ap (drop (length (bytes_of k))) e ∙ ap (λ (b : List ℕ). drop (length b) (bytes_of l ++ t)) bytes ∙ drop-append_seam (bytes_of l) t in
    (record { line = lines; edition = opening_numbers k l numbers lines }, rests)
