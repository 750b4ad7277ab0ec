-- Two stores, and the number in the bytes behind them.
use Rattle.std.proofs.Common.{ℕ, sym, arith, length-set}
use Rattle.readout.proofs.Bytes.{record_length, record_put}
use Rattle.readout.proofs.writing.put_record.Goals as goal

pub bounds-part-0 : goal.bounds-part-0
bounds-part-0 c = omega (arith, c.requires, record_length c.args.vif c.args.number)

pub bounds-part-1 : goal.bounds-part-1
bounds-part-1 c = omega (arith, c.requires, record_length c.args.vif c.args.number, length-set {A = ℕ})

pub slice_bounds-put_packed-end : goal.slice_bounds-put_packed-end
slice_bounds-put_packed-end c = omega (arith, c.requires, record_length c.args.vif c.args.number, length-set {A = ℕ})

pub returns : goal.returns
returns c =
    let l = record_length c.args.vif c.args.number in
    (sym l, record_put c.args.part.now _ c.args.vif c.args.number (omega (arith, c.requires, l)) c.put_packed.ensures)
