-- The part that was lent comes back with the readout at its front; and what is promised of the answer is promised of what writing means.
use Rattle.std.proofs.Common.{rules, ◌∙◌, sym, refl, arith, length}
use Rattle.quantity.proofs.Rows.{passed_on}
use Rattle.buffer.specs.Putting.{buffer_after}
use Rattle.buffer.proofs.Lent.{rest_length}
use Rattle.buffer.proofs.Puts.{lent_back}
use Rattle.buffer.proofs.Rows.{refused_put, room_left, whole_put}
use Rattle.readout.specs.Records.{readout_of, readout_length, whole_of}
use Rattle.readout.specs.Writing.{own_rows}
use Rattle.readout.proofs.Bytes.{readout_length_lem}
use Rattle.readout.proofs.Written.{write_number, written_exactly}
use Rattle.readout.proofs.writing.write_readout.Goals as goal

pub returns-in_err-put_refusal-clause-answer : goal.returns-in_err-put_refusal-clause-answer
returns-in_err-put_refusal-clause-answer c =
    let a = c.args in
    let r = whole_of a.heat a.volume in
    refused_put (length a.buf.now) a.at readout_length (own_rows r) (readout_of r) _ _ (sym (readout_length_lem r)) (search rules) c.put_refusal.ensures.answer _ _ c.in_err-put_refusal.was (passed_on _ _ c.from_residual.ensures.1)

pub returns-in_err-put_refusal-clause-buffer : goal.returns-in_err-put_refusal-clause-buffer
unfolding buffer_after
returns-in_err-put_refusal-clause-buffer c = rw (passed_on _ _ c.from_residual.ensures.1) refl

pub returns-in_err-put_refusal-clause-number : goal.returns-in_err-put_refusal-clause-number
returns-in_err-put_refusal-clause-number c = write_number _ _ _ _ _ (returns-in_err-put_refusal-clause-answer c)

pub returns-in_err-put_refusal-clause-written_exactly : goal.returns-in_err-put_refusal-clause-written_exactly
returns-in_err-put_refusal-clause-written_exactly c = written_exactly _ _ _ _ _ (returns-in_err-put_refusal-clause-answer c)

pub put_readout-requires : goal.put_readout-requires
put_readout-requires c =
    let a = c.args in
    let r = whole_of a.heat a.volume in
    let w =
    room_left (length a.buf.now) a.at readout_length (own_rows r) (readout_of r) _ _ (sym (readout_length_lem r)) (search rules) c.put_refusal.ensures.answer c.in_ok-put_refusal.was in
    omega (arith, w.1, rest_length a.buf.now a.at, readout_length_lem r)

pub returns-clause-answer : goal.returns-clause-answer
returns-clause-answer c =
    let a = c.args in
    let r = whole_of a.heat a.volume in
    whole_put (length a.buf.now) a.at readout_length (own_rows r) (readout_of r) _ _ (sym (readout_length_lem r)) (search rules) c.put_refusal.ensures.answer _ c.in_ok-put_refusal.was
    (c.put_readout.ensures.0 ∙ rw c.whole_of-whole.ensures)

pub returns-clause-buffer : goal.returns-clause-buffer
unfolding buffer_after
returns-clause-buffer c =
    let a = c.args in
    let r = whole_of a.heat a.volume in
    let w =
    room_left (length a.buf.now) a.at readout_length (own_rows r) (readout_of r) _ _ (sym (readout_length_lem r)) (search rules) c.put_refusal.ensures.answer c.in_ok-put_refusal.was in
    lent_back a.buf.now a.at _ _ _ (omega (arith, w.1)) refl (rw c.whole_of-whole.ensures at c.put_readout.ensures.1)

pub returns-clause-number : goal.returns-clause-number
returns-clause-number c = write_number _ _ _ _ _ (returns-clause-answer c)

pub returns-clause-written_exactly : goal.returns-clause-written_exactly
returns-clause-written_exactly c = written_exactly _ _ _ _ _ (returns-clause-answer c)
