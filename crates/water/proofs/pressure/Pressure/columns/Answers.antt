-- The arrays of the pressure's table are right.
use Rattle.water.proofs.Entries.{right_6, right_16}
use Rattle.water.proofs.pressure.Pressure.columns.Goals as goal

pub returns-in-Bar6 : goal.returns-in-Bar6
returns-in-Bar6 c = rw c.in-Bar6.is (record { enthalpies = right_6.enthalpy; volumes = right_6.volume })

pub returns-in-Bar16 : goal.returns-in-Bar16
returns-in-Bar16 c = rw c.in-Bar16.is (record { enthalpies = right_16.enthalpy; volumes = right_16.volume })
