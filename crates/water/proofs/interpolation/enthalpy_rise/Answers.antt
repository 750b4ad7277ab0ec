-- The warmer has not the smaller enthalpy.
use Rattle.std.proofs.Common.{arith, ap₂, ◌≡◌, ◌-◌}
use Rattle.water.specs.Table.{table_of}
use Rattle.water.specs.Interpolation.{enthalpy_at}
use Rattle.water.proofs.Bounds.{bounded}
use Rattle.water.proofs.Properties.{enthalpy_in_order}
use Rattle.water.proofs.interpolation.enthalpy_rise.Goals as goal

pub overflow_sub-result : goal.overflow_sub-result
overflow_sub-result c =
    let w = c.args.warm in
    let k = c.args.cold in
    let same : c.enthalpy-2.result ≡ enthalpy_at (table_of w.pressure) k.temperature = rw c.requires.0 at c.enthalpy-2.ensures.is_enthalpy in
    omega (
      arith,
      c.enthalpy.ensures.is_enthalpy,
      same,
      enthalpy_in_order (table_of w.pressure) (bounded w.pressure) w.temperature k.temperature c.requires.1 w.in_table,
    )

pub returns-clause-rise : goal.returns-clause-rise
returns-clause-rise c = ap₂ ◌-◌ c.enthalpy.ensures.is_enthalpy (rw c.requires.0 at c.enthalpy-2.ensures.is_enthalpy)
