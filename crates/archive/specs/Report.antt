-- What a program prints of its input (docs/OPERATIONS.md, "The audit and the program"): the audit's answer as one line, R or X. A program has a
-- limit: of an input with more bytes it prints 68 at line 0, without an audit.
use Rattle.std.specs.Prelude.{◌≡◌, ◌↔◌, ℕ, ◌≤◌, ◌<◌, cond, List, ltb, length, get_or, Result, Ok, Err}
use Rattle.quantity.specs.Refusals.{number_of}
use Rattle.quantity.specs.declared.refusal.Refusal.TheVariants.{InputSize}
use Rattle.meter.specs.declared.state.Meter.{Meter}
use Rattle.lines.specs.Bytes.{letter_r}
use Rattle.lines.specs.Report.{report_text, output_of}
use Rattle.lines.specs.declared.line.RefusedAt.{RefusedAt}
use Rattle.lines.specs.declared.report.OutputLine.{OutputLine}
use Rattle.lines.specs.declared.report.Report.{Report}
use Rattle.lines.specs.declared.report.Report.TheVariants as R
use Rattle.archive.specs.Archive.{IsArchive}
use Rattle.archive.specs.Audit.{audit_of}

-- The limit of the program `audit`, in bytes. What follows holds for any limit.
abbrev pub audit_limit : ℕ
audit_limit = 65536

-- What is reported of the meter that an accepted file ends with. Kept seconds and cold register are left out, so that all editions have one form.
abbrev pub end_state : Meter → Report
end_state m = R.EndState m.card.serial m.accepted m.refused m.heat_register m.volume

-- what is reported of the audit's answer
unfoldable pub of_audited : Result Meter RefusedAt → Report
of_audited (Ok m) = end_state m
of_audited (Err r) = R.Refused (number_of r.refusal) r.line

-- what is reported of an input over the limit
abbrev pub over_limit : Report
over_limit = R.Refused (number_of InputSize) 0

-- what is reported of an input, by its length first
unfoldable pub report_of : ℕ → List ℕ → Report
report_of limit bs = cond (ltb limit (length bs)) over_limit (of_audited (audit_of bs))

-- the printed line of a report
abbrev pub line_of : Report → OutputLine
line_of report = output_of (report_text report)

-- Of an archive within the limit the line is R, with the meter that it leads to; and the line of no other input begins with R.
pub record ArchiveExactly (limit : ℕ) (bs : List ℕ) (line : OutputLine) : Type 0 where
  pub end_line : (z : Meter) → length bs ≤ limit → IsArchive bs z → line ≡ line_of (end_state z)
  pub no_other : get_or line.bytes 0 0 ≡ letter_r → (length bs ≤ limit) × ((z : Meter) × IsArchive bs z)

-- The line is that of 68 exactly where the input has more bytes than the limit.
abbrev pub OverLimitExactly : ℕ → List ℕ → OutputLine → Type 0
OverLimitExactly limit bs line = (line ≡ line_of over_limit) ↔ (limit < length bs)
