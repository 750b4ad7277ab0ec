-- What every sensor kind satisfies.
-- Assumes nothing.
use Prim.Native.Nat.{◌≤◌, ◌<◌}
use native.Mathlib.Omega.{arith}
use Rattle.platinum.specs.Sensor.{resistance_of}
use Rattle.platinum.specs.declared.sensor.Sensor.{Sensor}
use Rattle.platinum.specs.declared.sensor.Sensor.TheVariants.{Pt100, Pt500, Pt1000}

pub resistance_range : (s : Sensor) → (0 < resistance_of s) × (resistance_of s ≤ 1000)
unfolding resistance_of
resistance_range Pt100 = omega arith
resistance_range Pt500 = omega arith
resistance_range Pt1000 = omega arith
