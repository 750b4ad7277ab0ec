-- The numbers that were read, with the pressure of every file after them, say the card, and its own rows decide then; a refusal of the line's shape is
-- the line's.
use Rattle.std.proofs.Common.{◌∙◌, sym}
use Rattle.lines.specs.Line.{card, count_of, content_rows}
use Rattle.lines.proofs.Letters.{none_after, read_after, refused_after}
use Rattle.lines.proofs.LineLaws.{card_line}
use Rattle.quantity.proofs.Rows.{passed_on}
use Rattle.lines.proofs.reading.front_card.Goals as goal

pub returns-in_err-size : goal.returns-in_err-size
unfolding count_of
returns-in_err-size c =
    let r = c.fill_numbers in
    passed_on _ _ c.from_residual.ensures.1 ∙ none_after c.args.edition card c.args.after.now _ _ r.ensures r.auto.out _ c.in_err-size.was

pub returns-in_err-refusal : goal.returns-in_err-refusal
unfolding count_of content_rows
returns-in_err-refusal c =
    let r = c.fill_numbers in
    passed_on _ _ c.from_residual-in_err-refusal.ensures.1
    ∙ refused_after c.args.edition card c.args.after.now _ _ r.ensures r.auto.out _ c.in_ok-size.was _ (card_line _ _ r.auto.out c.from-card.ensures)
    _ (sym c.in_err-refusal.was ∙ c.refusal.ensures.answer)

pub returns : goal.returns
unfolding count_of content_rows
returns c =
    let r = c.fill_numbers in
    read_after c.args.edition card c.args.after.now _ _ r.ensures r.auto.out _ c.in_ok-size.was _ (card_line _ _ r.auto.out c.from-card.ensures)
    (sym c.in_ok-refusal.was ∙ c.refusal.ensures.answer)
