-- The code counts the calculator's and the pair's limit in 1/(2×D) percent, the flow sensor's in 1/(100×q), and adds over the
-- product: each fraction is the definition's.
-- Assumes nothing.
use mathlib.Core.Path.{◌≡◌, ap}
use Rattle.std.proofs.lemmas.Bool.{cond_both}
use Prim.Native.Nat.{ℕ, ◌+◌, ◌*◌, ◌<◌, min}
use native.Mathlib.Nat.{le_of_lt, mul-le-mul}
use native.Mathlib.Omega.{arith}
use borrow.Author.Tests.{leb-true, leb-false}
use Rattle.quantity.specs.Fractions.{◌over◌, plus, times, smaller, AtMost, is_at_most, Represents}
use Rattle.verdict.specs.Limit.{hundredths, calculator_limit, pair_limit, flow_sensor_sum, flow_sensor_limit, complete_limit, part_limit}
use Rattle.verdict.specs.Inside.Admitted.{point_of}
use Rattle.quantity.specs.declared.fraction.Fraction.{Fraction}
use Rattle.verdict.specs.declared.admitted.AdmittedPoint.{AdmittedPoint}
use Rattle.verdict.specs.declared.class.Figures.{Figures}
use Rattle.verdict.specs.declared.kinds.Part.TheVariants.{Calculator, SensorPair, FlowSensor, Complete}
use Rattle.verdict.specs.declared.point.TestPoint.{TestPoint}

-- the calculator's and the pair's, of any point with a difference
pub calculator_part : (p : TestPoint) →
    let d = p.difference.0 in
    0 < d → Represents (d + 200 * p.delta_min over 2 * d) (calculator_limit p)
unfolding calculator_limit plus
calculator_part p h = record { is_fraction = omega arith; same = omega arith }

pub pair_part : (p : TestPoint) →
    let d = p.difference.0 in
    0 < d → Represents (d + 600 * p.delta_min over 2 * d) (pair_limit p)
unfolding pair_limit plus times
pair_part p h = record { is_fraction = omega arith; same = omega arith }

-- of a point that is admitted for the part
pub calculator : (f : Figures) (a : AdmittedPoint) → a.part ≡ Calculator →
    Represents (a.difference.0 + 200 * a.delta_min over 2 * a.difference.0) (part_limit f (point_of a))
unfolding part_limit calculator_limit
calculator f a e = simp e (calculator_part (point_of a) (omega arith))

pub pair : (f : Figures) (a : AdmittedPoint) → a.part ≡ SensorPair →
    Represents (a.difference.0 + 600 * a.delta_min over 2 * a.difference.0) (part_limit f (point_of a))
unfolding part_limit pair_limit
pair f a e = simp e (pair_part (point_of a) (omega arith))

-- the smaller of two, by which of them it is
either : (P : Fraction → Type 0) (x y : Fraction) → (AtMost x y → P x) → (AtMost y x → P y) → P (smaller x y)
unfolding smaller
either P x y first second =
    cond_both (is_at_most x y) x y P (λ e. first (leb-true _ _ e)) (λ e. second (le_of_lt (leb-false _ _ e)))

-- the smaller of the sum and the cap, both times 100 × q
pub capped : (f : Figures) (p : TestPoint) (n : ℕ) → 0 < p.q → n ≡ min (f.constant * p.q + f.factor * p.qp) (f.cap * p.q) → Represents (n over 100 * p.q) (flow_sensor_limit f p)
unfolding flow_sensor_limit flow_sensor_sum plus times
capped f p n h e =
    either (Represents (n over 100 * p.q)) (flow_sensor_sum f p) _
    (λ (below : AtMost (flow_sensor_sum f p) (hundredths f.cap)).
    let m : n ≡ f.constant * p.q + f.factor * p.qp = omega arith in
    rw m (record { is_fraction = omega arith; same = omega arith }))
    (λ (above : AtMost (hundredths f.cap) (flow_sensor_sum f p)).
    let m : n ≡ f.cap * p.q = omega arith in
    rw m (record { is_fraction = omega arith; same = omega arith }))

pub flow_sensor : (f : Figures) (a : AdmittedPoint) (n : ℕ) → a.part ≡ FlowSensor → n ≡ min (f.constant * a.q + f.factor * a.qp) (f.cap * a.q) →
    Represents (n over 100 * a.q) (part_limit f (point_of a))
unfolding part_limit flow_sensor_limit flow_sensor_sum
flow_sensor f a n e h = simp e (capped f (point_of a) n (omega arith) h)

-- a complete instrument's, from a fraction n/e for the flow sensor's
added : (f : Figures) (p : TestPoint) (n e : ℕ) →
    let d = p.difference.0 in
    let m = p.delta_min in
    0 < d → Represents (n over e) (flow_sensor_limit f p) → Represents ((d + 200 * m + (d + 600 * m)) * e + n * (2 * d) over 2 * d * e) (complete_limit f p)
unfolding complete_limit calculator_limit pair_limit plus times
added f p n e h r =
    let d = p.difference.0 in
    record {
      is_fraction = omega (arith, mul-le-mul h r.is_fraction);
      same = omega (arith, ap (λ (y : ℕ). y * (8 * (d * d * d))) r.same);
    }

pub complete : (f : Figures) (a : AdmittedPoint) (n : ℕ) →
    let d = a.difference.0 in
    let m = a.delta_min in
    a.part ≡ Complete → n ≡ min (f.constant * a.q + f.factor * a.qp) (f.cap * a.q) →
    Represents ((d + 200 * m + (d + 600 * m)) * (100 * a.q) + n * (2 * d) over 2 * d * (100 * a.q)) (part_limit f (point_of a))
unfolding part_limit complete_limit calculator_limit pair_limit flow_sensor_limit flow_sensor_sum
complete f a n e h = simp e (added f (point_of a) n (100 * a.q) (omega arith) (capped f (point_of a) n (omega arith) h))
