-- The numbers that were read, with zeros after them, say the totals; a refusal is the line's.
use Rattle.std.proofs.Common.{◌∙◌, refl, ap}
use Rattle.std.proofs.Math.Seq.{length-take-le}
use Rattle.quantity.specs.Refusals.{first_of}
use Rattle.lines.specs.declared.line.Line.TheVariants as L
use Rattle.lines.specs.Line.{totals, content_rows, line_of}
use Rattle.lines.specs.Inside.Parts.{most_later}
use Rattle.lines.proofs.Letters.{padded, none_after, read_after}
use Rattle.quantity.proofs.Rows.{passed_on}
use Rattle.lines.proofs.Shown.{zeros_left}
use Rattle.lines.proofs.reading.front_end.Goals as goal

pub returns-in_err-size : goal.returns-in_err-size
returns-in_err-size c =
    let r = c.fill_numbers in
    let n = c.totals_count in
    passed_on _ _ c.from_residual.ensures.1
    ∙ none_after c.args.edition totals c.args.after.now _ _ r.ensures (r.auto.out ∙ length-take-le _ _ n.ensures.1 ∙ n.ensures.0) _ c.in_err-size.was

pub returns : goal.returns
unfolding content_rows line_of first_of
returns c =
    let r = c.fill_numbers in
    let n = c.totals_count in
    read_after c.args.edition totals c.args.after.now _ _ r.ensures (r.auto.out ∙ length-take-le _ _ n.ensures.1 ∙ n.ensures.0) _ c.in_ok-size.was
    _ (ap L.End c.from.ensures ∙ padded totals r.new.out _ (zeros_left n.result most_later)) refl
