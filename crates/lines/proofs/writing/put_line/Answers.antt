-- The first field and the numbers that are shown are the line's.
use Rattle.lines.proofs.Listing.{text_is}
use Rattle.lines.proofs.writing.put_line.Goals as goal

pub put_text-requires : goal.put_text-requires
put_text-requires c = rw (text_is c.args.what _ c.numbers_of-listed.ensures _ _ c.first_field.ensures c.shown.ensures) c.requires.0

pub returns : goal.returns
returns c = rw (← text_is c.args.what _ c.numbers_of-listed.ensures _ _ c.first_field.ensures c.shown.ensures) c.put_text.ensures
