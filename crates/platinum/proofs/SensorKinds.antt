-- The sensor kind that a card's field names, or that there is none.
-- Assumes nothing.
use mathlib.Core.Path.{◌≡◌, refl, sym}
use mathlib.Core.Bool.{Bool, true, false, cond}
use mathlib.Core.Logic.{inl, inr}
use Prim.Native.Nat.{ℕ}
use lib.Dec.{eqb}
use borrow.Author.Tests.{eqb-true, eqb-false}
use Rattle.std.specs.Prelude.{Result, Ok, Err}
use Rattle.platinum.specs.Sensor.{IsResistance, resistance_of, sensor_of}
use Rattle.platinum.specs.declared.sensor.Sensor.{Sensor}
use Rattle.platinum.specs.declared.sensor.Sensor.TheVariants.{Pt100, Pt500, Pt1000}
use Rattle.platinum.specs.declared.reading.Unmeasured.{Unmeasured}
use Rattle.platinum.specs.declared.reading.Unmeasured.TheVariants.{NoSensor}

-- a kind is named by its resistance, and none where no kind has that resistance
abbrev pub Named : Result Sensor Unmeasured → ℕ → Type 0
Named (Ok s) field = (resistance_of s ≡ field) × IsResistance field
Named (Err u) field = (u ≡ NoSensor) × (¬ IsResistance field)

none : (field : ℕ) → eqb field 100 ≡ false → eqb field 500 ≡ false → eqb field 1000 ≡ false → ¬ IsResistance field
none field p q r (inl e) = eqb-false field 100 p e
none field p q r (inr (inl e)) = eqb-false field 500 q e
none field p q r (inr (inr e)) = eqb-false field 1000 r e

by_tests : (field : ℕ) (a b c : Bool) → eqb field 100 ≡ a → eqb field 500 ≡ b → eqb field 1000 ≡ c →
    Named (cond a (Ok Pt100) (cond b (Ok Pt500) (cond c (Ok Pt1000) (Err NoSensor)))) field
unfolding resistance_of
by_tests field true b c p q r = let e = eqb-true field 100 p in (sym e, inl e)
by_tests field false true c p q r = let e = eqb-true field 500 q in (sym e, inr (inl e))
by_tests field false false true p q r = let e = eqb-true field 1000 r in (sym e, inr (inr e))
by_tests field false false false p q r = (refl, none field p q r)

pub named : (field : ℕ) → Named (sensor_of field) field
unfolding sensor_of
named field = by_tests field _ _ _ refl refl refl
