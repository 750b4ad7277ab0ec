-- One record behind the other.
use Rattle.std.proofs.Common.{arith}
use Rattle.readout.specs.Records.{energy_in_kwh}
use Rattle.readout.proofs.Bytes.{record_length, second_room, readout_put}
use Rattle.readout.proofs.writing.put_readout.Goals as goal

pub put_record-place-requires : goal.put_record-place-requires
put_record-place-requires c = omega (arith, c.requires, record_length energy_in_kwh c.args.whole.kilowatt_hours)

pub put_record-requires : goal.put_record-requires
put_record-requires c =
    second_room c.args.part.now c.args.whole c.requires _ _ (record { holds = c.put_record-place.ensures.1; next = c.put_record-place.ensures.0 })

pub returns : goal.returns
returns c =
    let w =
    readout_put c.args.part.now c.args.whole c.requires _ _ (record { holds = c.put_record-place.ensures.1; next = c.put_record-place.ensures.0 }) _ _
    c.put_record.ensures.0 c.put_record.ensures.1 in
    (w.next, w.holds)
