-- The part that was lent comes back with the line at its front; and what is promised of the answer is promised of what writing means.
use Rattle.std.proofs.Common.{refl, arith, length}
use Rattle.quantity.proofs.Rows.{passed_on}
use Rattle.buffer.specs.Putting.{buffer_after}
use Rattle.buffer.proofs.Puts.{lent_back}
use Rattle.buffer.proofs.Lent.{rest_length}
use Rattle.buffer.proofs.Rows.{refused_put, room_left, whole_put}
use Rattle.lines.specs.Line.{bytes_of}
use Rattle.lines.specs.Writing.{own_rows}
use Rattle.lines.proofs.WriterRows.{can_be_written, write_number, written_exactly}
use Rattle.lines.proofs.writing.write_line.Goals as goal

pub returns-in_err-put_refusal-clause-answer : goal.returns-in_err-put_refusal-clause-answer
returns-in_err-put_refusal-clause-answer c =
    let a = c.args in
    refused_put (length a.buf.now) a.at _ (own_rows a.what) (bytes_of a.what) _ _ c.line_length.ensures c.own_refusal.ensures c.put_refusal.ensures.answer _ _ c.in_err-put_refusal.was
    (passed_on _ _ c.from_residual.ensures.1)

pub returns-in_err-put_refusal-clause-number : goal.returns-in_err-put_refusal-clause-number
returns-in_err-put_refusal-clause-number c = write_number _ _ _ _ (returns-in_err-put_refusal-clause-answer c)

pub returns-in_err-put_refusal-clause-written_exactly : goal.returns-in_err-put_refusal-clause-written_exactly
returns-in_err-put_refusal-clause-written_exactly c = written_exactly _ _ _ _ (returns-in_err-put_refusal-clause-answer c)

pub put_line-requires : goal.put_line-requires
put_line-requires c =
    let a = c.args in
    let w = room_left (length a.buf.now) a.at _ (own_rows a.what) (bytes_of a.what) _ _ c.line_length.ensures c.own_refusal.ensures c.put_refusal.ensures.answer c.in_ok-put_refusal.was in
    (omega (arith, w.1, rest_length a.buf.now a.at), ((can_be_written a.what).0 w.0).edition)

pub returns-clause-answer : goal.returns-clause-answer
returns-clause-answer c =
    let a = c.args in
    whole_put (length a.buf.now) a.at _ (own_rows a.what) (bytes_of a.what) _ _ c.line_length.ensures c.own_refusal.ensures c.put_refusal.ensures.answer _ c.in_ok-put_refusal.was
    c.put_line.ensures.0

pub returns-clause-buffer : goal.returns-clause-buffer
unfolding buffer_after
returns-clause-buffer c =
    let a = c.args in
    let w = room_left (length a.buf.now) a.at _ (own_rows a.what) (bytes_of a.what) _ _ c.line_length.ensures c.own_refusal.ensures c.put_refusal.ensures.answer c.in_ok-put_refusal.was in
    lent_back a.buf.now a.at _ _ _ (omega (arith, w.1)) refl c.put_line.ensures.1

pub returns-clause-number : goal.returns-clause-number
returns-clause-number c = write_number _ _ _ _ (returns-clause-answer c)

pub returns-clause-written_exactly : goal.returns-clause-written_exactly
returns-clause-written_exactly c = written_exactly _ _ _ _ (returns-clause-answer c)
