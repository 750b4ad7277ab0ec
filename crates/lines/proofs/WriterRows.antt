-- The writer's rows: what refuses a line itself by stages, and which lines can be written.
-- Assumes nothing.
use Rattle.std.proofs.Common.{Result, Ok, Err}
use mathlib.Core.Path.{◌≡◌, refl, sym, ap, ◌∙◌}
use Rattle.std.specs.Prelude.{◌↔◌}
use mathlib.Core.Bool.{◌||◌}
use mathlib.Core.List.{List, [], ◌∷◌, ◌++◌}
use Prim.Native.Nat.{ℕ}
use lib.ListN.{length}
use Rattle.std.specs.Result.{result_and}
use Rattle.quantity.specs.Refusals.{row, first_of, refusal_number, first_number, NoneApplies}
use Rattle.quantity.specs.declared.refusal.Refusal.{Refusal}
use Rattle.quantity.specs.declared.refusal.Refusal.TheVariants as R
use Rattle.quantity.specs.declared.refusal.Row.{Row}
use Rattle.quantity.proofs.Rows.{parts, none_of_parts, none_together}
use Rattle.quantity.proofs.Conditions.{neither}
use Rattle.buffer.proofs.Rows.{put_exactly_where, can_be_put_exactly, put_number}
use Rattle.meter.specs.Edition.{is_other_edition}
use Rattle.lines.specs.Number.{some_long, some_nonzero}
use Rattle.lines.specs.Line.{numbers_of, lacked_of, bytes_of, content_rows, has_other_pressure}
use Rattle.lines.specs.Writing.{own_rows, write_rows, written_of, Writable}
use Rattle.lines.specs.Theorems.{CanBeWritten, WrittenExactly}
use Rattle.lines.specs.declared.line.EditionLine.{EditionLine}

module _ (line : EditionLine) where
  -- by stages: the edition, the content, what the bytes cannot tell
  abbrev pub before_content : Result Unit Refusal
  before_content = first_of (row R.Edition (is_other_edition line.edition) ∷ [])

  abbrev pub after_content : List Row
  after_content =
      row R.FilePressure (has_other_pressure line.line) ∷ row R.Number (some_long (numbers_of line) || some_nonzero (lacked_of line)) ∷ []

  in_stages : first_of (own_rows line) ≡ result_and before_content (result_and (first_of (content_rows line.line)) (first_of after_content))
  unfolding own_rows
  in_stages =
      parts (row R.Edition (is_other_edition line.edition) ∷ []) (content_rows line.line ++ after_content)
      ∙ ap (result_and before_content) (parts (content_rows line.line) after_content)

  pub first_stage : (r : Refusal) → before_content ≡ Err r → Err r ≡ first_of (own_rows line)
  first_stage r e = sym (in_stages ∙ rw e)

  pub second_stage : before_content ≡ Ok tt → (r : Refusal) → first_of (content_rows line.line) ≡ Err r → Err r ≡ first_of (own_rows line)
  second_stage f r e = sym (in_stages ∙ rw (f, e))

  pub third_stage : before_content ≡ Ok tt → first_of (content_rows line.line) ≡ Ok tt → first_of after_content ≡ first_of (own_rows line)
  third_stage f e = sym (in_stages ∙ rw (f, e))

  -- no row of its own applies exactly where it can be written
  pub can_be_written : NoneApplies (own_rows line) ↔ CanBeWritten line
  unfolding own_rows
  can_be_written = (
    λ n.
        let p = none_of_parts (content_rows line.line) after_content n.1 in
        let fit = neither (some_long (numbers_of line)) (some_nonzero (lacked_of line)) p.1.1.0 in
        record { edition = n.0; content = p.0; short = fit.0; tells_all = record { lacked_zero = fit.1; pressure = p.1.0 } },
    λ c.
        (c.edition, none_together (content_rows line.line) after_content c.content (c.tells_all.pressure, (simp (c.short, c.tells_all.lacked_zero), tt))),
  )

-- for `own_refusal`
pub ruleset stages = (first_stage, second_stage, third_stage)

-- LAW: a line is written so far exactly where it can be written and fits
pub written_exactly : (size at : ℕ) (line : EditionLine) (x : Result ℕ Refusal) → x ≡ written_of size at line → WrittenExactly size at line x
written_exactly size at line =
    put_exactly_where size at (own_rows line) (bytes_of line) (length (bytes_of line)) (CanBeWritten line) refl (can_be_written line)

-- room for its bytes from the front on is enough
pub writable_exactly : (line : EditionLine) → Writable line ↔ CanBeWritten line
writable_exactly line =
    let p = can_be_put_exactly (own_rows line) (bytes_of line) in
    (λ w. (can_be_written line).0 (p.0 w), λ c. p.1 ((can_be_written line).1 c))

-- and the number that is given is that of the rows
pub write_number : (size at : ℕ) (line : EditionLine) (x : Result ℕ Refusal) → x ≡ written_of size at line → refusal_number x ≡ first_number (write_rows size at line)
write_number size at line = put_number size at (own_rows line) (bytes_of line)
