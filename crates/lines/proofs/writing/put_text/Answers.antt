-- The first field, the fields, and a store.
use Rattle.std.proofs.Common.{sym, ap, List, ℕ, ◌++◌, length, drop}
use Rattle.std.proofs.Math.Seq.{length-take-le}
use Rattle.lines.proofs.Listing.{first_room, text_put}
use Rattle.lines.proofs.writing.put_text.Goals as goal

pub slice_bounds-copy_from_slice-end : goal.slice_bounds-copy_from_slice-end
slice_bounds-copy_from_slice-end c = first_room c.args.part.now c.args.first.now c.args.numbers.now c.requires

pub slice_bounds-copy_from_slice-end-2 : goal.slice_bounds-copy_from_slice-end-2
slice_bounds-copy_from_slice-end-2 c = sym (length-take-le _ _ (first_room c.args.part.now c.args.first.now c.args.numbers.now c.requires))

pub copy_from_slice-requires : goal.copy_from_slice-requires
copy_from_slice-requires c = length-take-le _ _ (first_room c.args.part.now c.args.first.now c.args.numbers.now c.requires)

pub returns : goal.returns
returns c =
    let a = c.args in
    let copied = ap (λ (l : List ℕ). l ++ drop (length a.first.now) a.part.now) c.copy_from_slice.ensures.after in
    let w = text_put a.part.now a.first.now a.numbers.now c.requires _ copied _ _ c.put_fields.ensures.0 c.put_fields.ensures.1 in
    (w.next, w.holds)
