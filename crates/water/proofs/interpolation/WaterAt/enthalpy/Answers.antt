-- The entries that are read are those of the table, and what lies between them has the table's bound.
use Rattle.std.proofs.Common.{arith, ◌∙◌}
use Rattle.water.specs.Table.{table_of}
use Rattle.water.proofs.Bounds.{bounded}
use Rattle.water.proofs.Entries.{held_between}
use Rattle.water.proofs.Properties.{enthalpy_at_most}
use Rattle.water.proofs.interpolation.WaterAt.enthalpy.Goals as goal

pub returns-clause-is_enthalpy : goal.returns-clause-is_enthalpy
returns-clause-is_enthalpy c =
    let w = table_of c.args.self.pressure in
    c.interpolate.ensures ∙ held_between w.specific_enthalpy w.last _ c.columns.ensures.enthalpies c.args.self.temperature.0

pub returns-clause-most_enthalpy : goal.returns-clause-most_enthalpy
returns-clause-most_enthalpy c =
    let p = c.args.self.pressure in
    let t = c.args.self.temperature in
    let w = table_of p in
    omega (arith, c.interpolate.ensures ∙ held_between w.specific_enthalpy w.last _ c.columns.ensures.enthalpies t.0, enthalpy_at_most w (bounded p) t)
