-- The entries that are read are those of the table, and what lies between them has the table's bounds.
use Rattle.std.proofs.Common.{arith, ◌∙◌}
use Rattle.water.specs.Table.{table_of}
use Rattle.water.proofs.Bounds.{bounded}
use Rattle.water.proofs.Entries.{held_between}
use Rattle.water.proofs.Properties.{volume_lies}
use Rattle.water.proofs.interpolation.WaterAt.volume.Goals as goal

pub returns-clause-is_volume : goal.returns-clause-is_volume
returns-clause-is_volume c =
    let w = table_of c.args.self.pressure in
    c.interpolate.ensures ∙ held_between w.specific_volume w.last _ c.columns.ensures.volumes c.args.self.temperature.0

pub returns-clause-least_volume : goal.returns-clause-least_volume
returns-clause-least_volume c =
    let p = c.args.self.pressure in
    let t = c.args.self.temperature in
    let w = table_of p in
    omega (arith, c.interpolate.ensures ∙ held_between w.specific_volume w.last _ c.columns.ensures.volumes t.0, volume_lies w (bounded p) t)

pub returns-clause-most_volume : goal.returns-clause-most_volume
returns-clause-most_volume c =
    let p = c.args.self.pressure in
    let t = c.args.self.temperature in
    let w = table_of p in
    omega (arith, c.interpolate.ensures ∙ held_between w.specific_volume w.last _ c.columns.ensures.volumes t.0, volume_lies w (bounded p) t)
