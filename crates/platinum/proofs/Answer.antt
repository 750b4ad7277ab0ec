-- What the temperature operation's definition amounts to, whatever the search inside: a temperature is answered exactly where there is one.
-- Assumes nothing.
use mathlib.Core.Path.{◌≡◌, refl, sym, ◌∙◌, ap, subst}
use mathlib.Core.List.{◌∷◌}
use mathlib.Core.Bool.{Bool, true, false, cond}
use Prim.Native.Nat.{ℕ, ◌*◌, ◌≤◌}
use native.Mathlib.Nat.{le_antisymm}
use native.Mathlib.Omega.{arith}
use lib.Dec.{leb, ltb, lit≤}
use borrow.Author.Tests.{le-ltb, le-leb, ltb-false, leb-true}
use Rattle.std.specs.Prelude.{Result, Ok, Err}
use Rattle.quantity.specs.Largest.{largest}
use Rattle.quantity.specs.Refusals.{row, first_of, first_number, refusal_number}
use Rattle.quantity.proofs.Largest.{bounded, holds, at_least}
use Rattle.quantity.proofs.Rows.{first_number_lem}
use Rattle.quantity.specs.declared.units.Temperature.{Temperature}
use Rattle.quantity.specs.declared.refusal.Refusal.TheVariants.{SensorKind}
use Rattle.quantity.specs.declared.range.Role.{Role}
use Rattle.quantity.specs.declared.range.Role.TheVariants.{Alone}
use Rattle.quantity.specs.declared.range.End.TheVariants.{Low, High}
use Rattle.platinum.specs.Sensor.{sensor_of, is_unknown}
use Rattle.quantity.specs.Units.{last_hundredth}
use Rattle.platinum.specs.Temperature.{W, scaled, of_resistance, of_kind, temperature_of, HasTemperature, IsTemperature}
use Rattle.platinum.specs.Refusal.{unmeasured_refusal, refusal_of, end_rows, alone_rows}
use Rattle.platinum.specs.Theorems.{MeasuredExactly, LargerReading}
use Rattle.platinum.specs.declared.sensor.Sensor.{Sensor}
use Rattle.platinum.specs.declared.reading.Unmeasured.{Unmeasured}
use Rattle.platinum.specs.declared.reading.Unmeasured.TheVariants.{Outside}
use Rattle.platinum.proofs.SensorKinds.{Named, named}

module _ (n r : ℕ) where
  test : ℕ → Bool
  test t = leb (n * W t) (scaled r)

  -- the largest one, in its range, is the temperature of r
  is_temperature : n * W 0 ≤ scaled r → IsTemperature n r (largest test last_hundredth)
  unfolding test
  is_temperature h = record {
    in_range = bounded test last_hundredth;
    reached = leb-true _ _ (holds test last_hundredth 0 (lit≤ tt) (le-leb _ _ h));
    largest_one = λ s g e. at_least test last_hundredth s g (le-leb _ _ e);
  }

-- there is at most one
unique : (n r s t : ℕ) → IsTemperature n r s → IsTemperature n r t → s ≡ t
unique n r s t h g = le_antisymm (g.largest_one s h.in_range h.reached) (h.largest_one t g.in_range g.reached)

-- what an answer `Ok t` says, by the two tests of `of_resistance`
by_tests : (n r : ℕ) (t : Temperature) (low high : Bool) → ltb (scaled r) (n * W 0) ≡ low → ltb (n * W last_hundredth) (scaled r) ≡ high →
    cond low (Err (Outside Low)) (cond high (Err (Outside High)) (Ok (record { 0 = largest (test n r) last_hundredth }))) ≡ Ok t → HasTemperature n r × IsTemperature n r t.0
by_tests n r t true high p q e = cc
by_tests n r t false true p q e = cc
by_tests n r t false false p q e =
    let from = ltb-false (scaled r) (n * W 0) p in
    let same : ◌≡◌ {A = Temperature} (record { 0 = largest (test n r) last_hundredth }) t = cc in
    (record { from = from; to = ltb-false (n * W last_hundredth) (scaled r) q }, subst (λ (x : Temperature). IsTemperature n r x.0) same (is_temperature n r from))

-- an answered temperature is that of r, and r lies in the range
answered : (n r : ℕ) (t : Temperature) → of_resistance n r ≡ Ok t → HasTemperature n r × IsTemperature n r t.0
unfolding of_resistance test
answered n r t e = by_tests n r t _ _ refl refl e

largest_is : (n r : ℕ) → HasTemperature n r → of_resistance n r ≡ Ok (record { 0 = largest (test n r) last_hundredth })
unfolding of_resistance test
largest_is n r h = simp (le-ltb (scaled r) (n * W 0) h.from, le-ltb (n * W last_hundredth) (scaled r) h.to)

-- in the range the answer is whichever t is the temperature of r
exactly : (n r : ℕ) (t : Temperature) → HasTemperature n r → IsTemperature n r t.0 → of_resistance n r ≡ Ok t
exactly n r t h g = largest_is n r h ∙ ap (λ (x : ℕ). Ok (record { 0 = x })) (unique n r _ _ (is_temperature n r h.from) g)

-- so of a sensor kind a temperature is answered exactly where there is one; of no kind there is none
by_name : (n r : ℕ) (k : Result Sensor Unmeasured) → Named k n → MeasuredExactly n r (of_kind k r)
by_name n r (Ok s) h = subst (λ (x : ℕ). MeasuredExactly n r (of_resistance x r)) (sym h.0)
    (λ t. (λ e. let a = answered n r t e in (h.1, a.0, a.1), λ g. exactly n r t g.1 g.2))
by_name n r (Err u) h = λ t. (λ e. cc, λ g. absurd (h.1 g.0))

pub measured_exactly : (n r : ℕ) (m : Result Temperature Unmeasured) → m ≡ temperature_of n r → MeasuredExactly n r m
unfolding temperature_of
measured_exactly n r m e = subst (MeasuredExactly n r) (sym e) (by_name n r (sensor_of n) (named n))

pub larger_reading : LargerReading
larger_reading n r r' s t h e f =
    let a = (measured_exactly n r _ refl s).0 e in
    let b = (measured_exactly n r' _ refl t).0 f in
    b.2.largest_one s.0 a.2.in_range (omega (arith, a.2.reached))

-- the rows say what an answer's refusal is
abbrev RowsSay : Role → Result Temperature Unmeasured → Bool → Type 0
RowsSay p m unknown = refusal_of p m ≡ first_of (row SensorKind unknown ∷ end_rows p m)

kind_rows : (p : Role) (low high : Bool) (t : Temperature) → RowsSay p (cond low (Err (Outside Low)) (cond high (Err (Outside High)) (Ok t))) false
unfolding refusal_of unmeasured_refusal first_of
kind_rows p true high t = refl
kind_rows p false true t = refl
kind_rows p false false t = refl

-- the refusal of an answer is that of the first row that applies
of_field : (p : Role) (n r : ℕ) (k : Result Sensor Unmeasured) → Named k n → RowsSay p (of_kind k r) (is_unknown k)
unfolding refusal_of unmeasured_refusal first_of of_resistance
of_field p n r (Ok s) h = kind_rows p _ _ _
of_field p n r (Err u) h = rw h.0 refl

pub refusal : (field r : ℕ) (m : Result Temperature Unmeasured) → m ≡ temperature_of field r → refusal_of Alone m ≡ first_of (alone_rows field r)
unfolding temperature_of
refusal field r m e = ap (refusal_of Alone) e ∙ of_field Alone field r (sensor_of field) (named field)

pub number : (field r : ℕ) (m : Result Temperature Unmeasured) → m ≡ temperature_of field r → refusal_number (refusal_of Alone m) ≡ first_number (alone_rows field r)
number field r m e = ap refusal_number (refusal field r m e) ∙ first_number_lem (alone_rows field r)
