-- The edges of a Pt 100's temperatures and of the verdict, computed by the definitions.
-- Assumes nothing.
use mathlib.Core.Path.{refl}
use Rattle.quantity.specs.Largest.{largest}
use Rattle.quantity.specs.Range.{refusal_at_end}
use Rattle.quantity.specs.Refusals.{number_of}
use Rattle.platinum.specs.Sensor.{resistance_of, sensor_of}
use Rattle.platinum.specs.Temperature.{W, of_resistance, temperature_of}
use Rattle.platinum.specs.Refusal.{refusal_of, unmeasured_refusal}
use Rattle.verdict.proofs.Edges.{verdict_edges}
use Rattle.vectors.specs.Theorems.{Edges}

pub edges : Edges
unfolding temperature_of sensor_of resistance_of of_resistance largest W refusal_of unmeasured_refusal refusal_at_end number_of
edges = record {
  lowest = refl;
  below = refl;
  below_number = refl;
  highest = refl;
  above = refl;
  above_number = refl;
  at_20 = refl;
  at_80 = refl;
  under_10 = refl;
  at_10 = refl;
  verdicts = verdict_edges;
}
