-- The part that was lent comes back with comma and number at its front.
use Rattle.std.proofs.Common.{◌∙◌, [], ◌∷◌, ◌+◌, refl, ap, arith, length}
use Rattle.quantity.specs.Refusals.{first_of}
use Rattle.quantity.specs.declared.refusal.Row.{Row}
use Rattle.quantity.proofs.Rows.{passed_on}
use Rattle.buffer.specs.Putting.{buffer_after}
use Rattle.buffer.proofs.Puts.{lent_back}
use Rattle.buffer.proofs.Rows.{refused_put, room_left, whole_put, put_number}
use Rattle.lines.specs.Columns.{field_text, field_rows}
use Rattle.lines.proofs.NumbersLaws.{field_exactly}
use Rattle.lines.proofs.field.write_field.Goals as goal

pub returns-in_err-put_refusal-clause-answer : goal.returns-in_err-put_refusal-clause-answer
returns-in_err-put_refusal-clause-answer c =
    let a = c.args in
    refused_put (length a.buf.now) a.at (c.width.result + 1) (field_rows a.number) (field_text a.number) _ _ (omega (arith, c.width.ensures.counted)) (c.first_refusal-own.ensures.answer ∙ ap (λ (r : Row). first_of (r ∷ [])) c.when.ensures) c.put_refusal.ensures.answer _ _
    c.in_err-put_refusal.was (passed_on _ _ c.from_residual.ensures.1)

pub returns-in_err-put_refusal-clause-number : goal.returns-in_err-put_refusal-clause-number
returns-in_err-put_refusal-clause-number c = put_number (length c.args.buf.now) c.args.at (field_rows c.args.number) (field_text c.args.number) _ (returns-in_err-put_refusal-clause-answer c)

pub returns-clause-answer : goal.returns-clause-answer
returns-clause-answer c =
    let a = c.args in
    whole_put (length a.buf.now) a.at (c.width.result + 1) (field_rows a.number) (field_text a.number) _ _ (omega (arith, c.width.ensures.counted)) (c.first_refusal-own.ensures.answer ∙ ap (λ (r : Row). first_of (r ∷ [])) c.when.ensures) c.put_refusal.ensures.answer _
    c.in_ok-put_refusal.was c.put_field.ensures.0

pub returns-clause-buffer : goal.returns-clause-buffer
unfolding buffer_after
returns-clause-buffer c =
    let a = c.args in
    let w = room_left (length a.buf.now) a.at (c.width.result + 1) (field_rows a.number) (field_text a.number) _ _ (omega (arith, c.width.ensures.counted)) (c.first_refusal-own.ensures.answer ∙ ap (λ (r : Row). first_of (r ∷ [])) c.when.ensures) c.put_refusal.ensures.answer c.in_ok-put_refusal.was in
    lent_back a.buf.now a.at _ _ _ (omega (arith, w.1)) refl c.put_field.ensures.1

pub returns-clause-number : goal.returns-clause-number
returns-clause-number c = put_number (length c.args.buf.now) c.args.at (field_rows c.args.number) (field_text c.args.number) _ (returns-clause-answer c)

pub returns-in_err-put_refusal-clause-field_exactly : goal.returns-in_err-put_refusal-clause-field_exactly
returns-in_err-put_refusal-clause-field_exactly c = field_exactly _ _ _ _ (returns-in_err-put_refusal-clause-answer c)

pub returns-clause-field_exactly : goal.returns-clause-field_exactly
returns-clause-field_exactly c = field_exactly _ _ _ _ (returns-clause-answer c)
