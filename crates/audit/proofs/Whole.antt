-- What is printed is the line of the whole input, though no more of it was read than the space holds.
use Rattle.std.proofs.Common.{◌≡◌, ℕ, ◌<◌, ◌≤◌, Bool, true, false, List, [], ◌++◌, length, take, None, Some, IfSome}
use Rattle.std.proofs.Common.{refl, sym, ap, ◌∙◌, subst, arith, append-nil, length-append, length-take-le, take_at}
use Rattle.std.specs.Prelude.{ltb}
use Rattle.std.specs.Io.KnownBytes.{Appends, Consumes, IsAtEnd}
use Rattle.std.specs.declared.option.Option.{Option}
use borrow.Author.Tests.{lt-ltb, ltb-true, ltb-false}
use Rattle.buffer.specs.Putting.{put_at}
use Rattle.lines.specs.Report.{report_text, output_of}
use Rattle.lines.specs.declared.report.OutputLine.{OutputLine}
use Rattle.archive.specs.Report.{audit_limit, report_of, line_of}

-- inputs over the limit have one report
both_over : (limit : ℕ) (a b : List ℕ) → limit < length a → limit < length b → report_of limit a ≡ report_of limit b
unfolding report_of
both_over limit a b p q = rw (lt-ltb limit (length a) p, lt-ltb limit (length b) q)

-- either nothing is left of the input, or what was read is over the limit already
whole : (limit size : ℕ) (space bytes rest : List ℕ) → limit < length space → size ≤ length space → bytes ≡ take size space ++ rest
    → (size < length space → rest ≡ []) → report_of limit (take size space) ≡ report_of limit bytes
whole limit size space bytes rest h k p q = by (ltb size (length space)) refl
  where
    by : (t : Bool) → ltb size (length space) ≡ t → report_of limit (take size space) ≡ report_of limit bytes
    by true e = ap (report_of limit) (sym (p ∙ ap (λ l. take size space ++ l) (q (ltb-true size (length space) e)) ∙ append-nil (take size space)))
    by false e =
        let full = ltb-false size (length space) e in
        let count = length-take-le size space k in
        let longer = ap length p ∙ length-append (take size space) rest in
        both_over limit (take size space) bytes (omega arith) (omega arith)

-- what stands in an output line up to its length
line_text : (l : OutputLine) (text : List ℕ) → l ≡ output_of text → take l.length l.bytes ≡ text
unfolding output_of put_at
line_text l text e = ap (λ (x : OutputLine). take x.length x.bytes) e ∙ take_at text _ (length text) refl

pub audited : (before after held written : Option (List ℕ)) (size : ℕ) (space : List ℕ) (l : OutputLine) → audit_limit < length space
    → size ≤ length space → Consumes before after (take size space) → (size < length space → IsAtEnd after)
    → l ≡ line_of (report_of audit_limit (take size space)) → Appends held written (take l.length l.bytes)
    → IfSome before (λ bytes. Appends held written (report_text (report_of audit_limit bytes)))
audited None after held written size space l h k p q e w = tt
audited (Some bytes) None held written size space l h k p q e w = absurd p
audited (Some bytes) (Some rest) held written size space l h k p q e w =
    subst (Appends held written) (line_text l _ e ∙ ap report_text (whole audit_limit size space bytes rest h k p q)) w
