-- Each field has room, and all are the fields of the numbers.
use Rattle.lines.proofs.Listing.{next_room, next, all}
use Rattle.lines.proofs.writing.put_fields.Goals as goal

pub put_field-place-requires : goal.put_field-place-requires
put_field-place-requires c =
    let l = c.loop-number in
    let a = c.args in
    next_room a.part.now a.numbers.now l.part l.place l.number-index l.invariant c.requires c.loop-number-test.true

pub loop-number-preserved : goal.loop-number-preserved
loop-number-preserved c =
    let l = c.loop-number in
    let a = c.args in
    next a.part.now a.numbers.now l.part l.place l.number-index l.invariant c.requires c.loop-number-test.true _ _ c.put_field-place.ensures.0 c.put_field-place.ensures.1

pub returns : goal.returns
returns c =
    let l = c.loop-number in
    let a = c.args in
    let w = all a.part.now a.numbers.now l.part l.place l.number-index l.invariant c.requires c.loop-number-test.false in
    (w.next, w.holds)
