-- The rows by their stages.
use Rattle.std.proofs.Common.{◌≡◌, ◌∙◌, sym}
use Rattle.quantity.specs.Refusals.{first_of}
use Rattle.quantity.proofs.Rows.{passed_on}
use Rattle.lines.proofs.Listing.{refused_is}
use Rattle.lines.proofs.WriterRows.{before_content, after_content, first_stage, second_stage, third_stage}
use Rattle.lines.proofs.writing.own_refusal.Goals as goal

pub returns-in_err-first_refusal : goal.returns-in_err-first_refusal
returns-in_err-first_refusal c =
    let before : c.first_refusal.result ≡ before_content c.args.what = c.first_refusal.ensures.answer ∙ simp (c.when.ensures, c.is_other_edition.ensures) in
    passed_on _ _ c.from_residual.ensures.1 ∙ first_stage c.args.what _ (sym before ∙ c.in_err-first_refusal.was)

pub returns-in_err-content_refusal : goal.returns-in_err-content_refusal
returns-in_err-content_refusal c =
    let before : c.first_refusal.result ≡ before_content c.args.what = c.first_refusal.ensures.answer ∙ simp (c.when.ensures, c.is_other_edition.ensures) in
    passed_on _ _ c.from_residual-in_err-content_refusal.ensures.1
    ∙ second_stage c.args.what (sym before ∙ c.in_ok-first_refusal.was) _ (sym c.content_refusal.ensures ∙ c.in_err-content_refusal.was)

pub returns : goal.returns
returns c =
    let before : c.first_refusal.result ≡ before_content c.args.what = c.first_refusal.ensures.answer ∙ simp (c.when.ensures, c.is_other_edition.ensures) in
    let refused = c.has_refused_number.ensures ∙ refused_is c.args.what _ c.numbers_of.ensures in
    let after : c.first_refusal-2.result ≡ first_of (after_content c.args.what) =
    c.first_refusal-2.ensures.answer ∙ simp (c.when-2.ensures, c.when-3.ensures, c.has_other_pressure.ensures, refused) in
    after ∙ third_stage c.args.what (sym before ∙ c.in_ok-first_refusal.was) (sym c.content_refusal.ensures ∙ c.in_ok-content_refusal.was)
