-- The numbers that were read say the sample; a refusal is the line's.
use Rattle.std.proofs.Common.{◌∙◌, refl}
use Rattle.quantity.specs.Refusals.{first_of}
use Rattle.lines.specs.Line.{sample, count_of, content_rows}
use Rattle.lines.proofs.Letters.{none_after, read_after}
use Rattle.lines.proofs.LineLaws.{sample_line}
use Rattle.quantity.proofs.Rows.{passed_on}
use Rattle.lines.proofs.reading.front_sample.Goals as goal

pub returns-in_err-size : goal.returns-in_err-size
unfolding count_of
returns-in_err-size c =
    let r = c.fill_numbers in
    passed_on _ _ c.from_residual.ensures.1 ∙ none_after c.args.edition sample c.args.after.now _ _ r.ensures r.auto.out _ c.in_err-size.was

pub returns : goal.returns
unfolding count_of content_rows first_of
returns c =
    let r = c.fill_numbers in
    read_after c.args.edition sample c.args.after.now _ _ r.ensures r.auto.out _ c.in_ok-size.was _ (sample_line _ _ c.from.ensures) refl
