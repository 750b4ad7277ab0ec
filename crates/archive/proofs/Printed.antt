-- What the output line of an input tells: R exactly for an archive within the limit, 68 exactly for an input over it.
-- Assumes nothing.
use mathlib.Core.Path.{◌≡◌, refl, sym, ◌∙◌, ap, subst}
use mathlib.Core.List.{List, [], ◌∷◌}
use mathlib.Core.Bool.{Bool, true, false}
use Prim.Native.Nat.{ℕ, ◌≤◌, ◌<◌}
use native.Mathlib.Omega.{arith}
use lib.Dec.{ltb}
use lib.ListN.{length, take, get_or}
use borrow.Author.Tests.{ltb-true, ltb-false, lt-ltb, le-ltb}
use Rattle.std.specs.Prelude.{Result, Ok, Err}
use Rattle.std.proofs.Common.{take_at}
use Rattle.quantity.specs.Refusals.{number_of}
use Rattle.quantity.specs.declared.refusal.Refusal.TheVariants.{InputSize}
use Rattle.buffer.specs.Putting.{put_at}
use Rattle.meter.specs.declared.state.Meter.{Meter}
use Rattle.lines.specs.Bytes.{letter_r, letter_x}
use Rattle.lines.specs.Line.{text_of}
use Rattle.lines.specs.Report.{report_text, output_of}
use Rattle.lines.specs.Reading.{numbers_in}
use Rattle.lines.specs.declared.line.RefusedAt.{RefusedAt}
use Rattle.lines.specs.declared.report.OutputLine.{OutputLine}
use Rattle.lines.specs.declared.report.Report.TheVariants as R
use Rattle.lines.proofs.Shape.{Plain, numbers_back}
use Rattle.lines.proofs.Splitting.{lacks}
use Rattle.archive.specs.Archive.{IsArchive}
use Rattle.archive.specs.Audit.{audit_of}
use Rattle.archive.specs.Report.{of_audited, end_state, over_limit, report_of, line_of, ArchiveExactly, OverLimitExactly}
use Rattle.archive.proofs.Acceptance.{is_archive, archive_accepted}
use Rattle.archive.proofs.Numbers.{audit_numbers}

-- by the length of the input
over : (limit : ℕ) (bs : List ℕ) → limit < length bs → report_of limit bs ≡ over_limit
unfolding report_of
over limit bs h = rw (lt-ltb limit (length bs) h) refl

within : (limit : ℕ) (bs : List ℕ) → length bs ≤ limit → report_of limit bs ≡ of_audited (audit_of bs)
unfolding report_of
within limit bs h = rw (le-ltb limit (length bs) h) refl

-- ---- a line tells its text, and a text its letter and its numbers

text_back : (text : List ℕ) → take (output_of text).length (output_of text).bytes ≡ text
unfolding output_of put_at
text_back text = take_at text _ (length text) refl

same_text : (s t : List ℕ) → output_of s ≡ output_of t → s ≡ t
same_text s t e = sym (text_back s) ∙ ap (λ (l : OutputLine). take l.length l.bytes) e ∙ text_back t

first_byte : (b : ℕ) (ns : List ℕ) → get_or (output_of (text_of (b ∷ []) ns)).bytes 0 0 ≡ b
unfolding output_of put_at text_of
first_byte b ns = refl

-- R's byte begins no line of a refusal
not_r : (n line : ℕ) → get_or (line_of (R.Refused n line)).bytes 0 0 ≡ letter_r → ⊥
unfolding report_text
not_r n line e = let x : letter_x ≡ letter_r = sym (first_byte letter_x (n ∷ line ∷ [])) ∙ e in omega (arith, x)

end_byte : (m : Meter) → get_or (line_of (end_state m)).bytes 0 0 ≡ letter_r
unfolding report_text
end_byte m = first_byte letter_r (m.card.serial ∷ m.accepted ∷ m.refused ∷ m.heat_register ∷ m.volume ∷ [])

x_plain : Plain (letter_x ∷ [])
unfolding lacks
x_plain = record { no_comma = refl; no_end = refl }

-- the numbers of a refusal's line are the refusal's
refusal_numbers : (n line : ℕ) → numbers_in (report_text (R.Refused n line)) ≡ n ∷ line ∷ []
unfolding report_text text_of
refusal_numbers n line = numbers_back (letter_x ∷ []) (n ∷ line ∷ []) [] x_plain

same_number : (n line k place : ℕ) → line_of (R.Refused n line) ≡ line_of (R.Refused k place) → n ≡ k
same_number n line k place e =
    let texts = same_text (report_text (R.Refused n line)) (report_text (R.Refused k place)) e in
    let numbers = sym (refusal_numbers n line) ∙ ap numbers_in texts ∙ refusal_numbers k place in
    ap (λ (ns : List ℕ). get_or ns 0 0) numbers

-- ---- the two theorems

module _ (limit : ℕ) (bs : List ℕ) (l : OutputLine) (e : l ≡ line_of (report_of limit bs)) where
  of_answer : (x : Result Meter RefusedAt) → audit_of bs ≡ x → get_or (line_of (of_audited x)).bytes 0 0 ≡ letter_r → (z : Meter) × IsArchive bs z
  unfolding of_audited
  of_answer (Ok z) a h = (z, is_archive bs z a)
  of_answer (Err r) a h = absurd (not_r (number_of r.refusal) r.line h)

  archive_by : (t : Bool) → ltb limit (length bs) ≡ t → get_or (line_of (report_of limit bs)).bytes 0 0 ≡ letter_r → (length bs ≤ limit) × ((z : Meter) × IsArchive bs z)
  archive_by true t h = absurd (not_r (number_of InputSize) 0 (subst (λ x. get_or (line_of x).bytes 0 0 ≡ letter_r) (over limit bs (ltb-true _ _ t)) h))
  archive_by false t h =
      let short = ltb-false _ _ t in
      (short, of_answer (audit_of bs) refl (subst (λ x. get_or (line_of x).bytes 0 0 ≡ letter_r) (within limit bs short) h))

  pub archive_exactly : ArchiveExactly limit bs l
  unfolding of_audited
  archive_exactly = record {
    end_line = λ z h k. e ∙ ap line_of (within limit bs h ∙ ap of_audited (archive_accepted bs z k));
    no_other = λ h. archive_by (ltb limit (length bs)) refl (sym (ap (λ (x : OutputLine). get_or x.bytes 0 0) e) ∙ h);
  }

  -- the numbers of the audit's refusals end at 65
  not_over : (x : Result Meter RefusedAt) → audit_of bs ≡ x → line_of (of_audited x) ≡ line_of over_limit → ⊥
  unfolding of_audited number_of
  not_over (Ok z) a h =
      let texts = ap (λ (x : OutputLine). get_or x.bytes 0 0) h in
      not_r 68 0 (sym texts ∙ end_byte z)
  not_over (Err r) a h = let n = same_number (number_of r.refusal) r.line 68 0 h in omega (arith, n, audit_numbers bs r.refusal r.line a)

  over_by : (t : Bool) → ltb limit (length bs) ≡ t → l ≡ line_of over_limit → limit < length bs
  over_by true t h = ltb-true _ _ t
  over_by false t h = absurd (not_over (audit_of bs) refl (ap line_of (sym (within limit bs (ltb-false _ _ t))) ∙ sym e ∙ h))

  pub over_limit_exactly : OverLimitExactly limit bs l
  over_limit_exactly = (over_by (ltb limit (length bs)) refl, λ h. e ∙ ap line_of (over limit bs h))
