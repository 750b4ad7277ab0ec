-- What is proved of the limit, of the comparison and of the verdict: when each gives its answer, how they hang together, and formulas and figures by
-- which a reader can check them. The clause of a contract, or the function of src/laws.rt, that promises a statement has the same name in small
-- letters. I is the indicated value, X the conventional true value; in the definitions they are i and x.
use Rattle.std.specs.Prelude.{ℕ, ◌+◌, ◌*◌, ◌≤◌, ◌≡◌, ◌↔◌, Result, Ok, Err}
use Rattle.quantity.specs.Divisors.{InLowestTerms}
use Rattle.quantity.specs.Fractions.{whole, IsFraction, plus, times, AtMost, Same, Represents}
use Rattle.quantity.specs.Refusals.{NoneApplies}
use Rattle.quantity.specs.declared.fraction.Fraction.{Fraction}
use Rattle.quantity.specs.declared.refusal.Refusal.{Refusal}
use Rattle.verdict.specs.Certificate.{error_limit_of, comparison_of}
use Rattle.verdict.specs.Limit.{hundredths, figures_of, difference_ratio, flow_ratio, flow_sensor_sum, limit_of}
use Rattle.verdict.specs.Rows.{largest_value, comparison_rows, verdict_rows, Admitted}
use Rattle.verdict.specs.Verdict.{absolute_error, verdict_of}
use Rattle.verdict.specs.declared.point.TestPoint.{TestPoint}
use Rattle.verdict.specs.declared.bench.Verdict.{Verdict}
use Rattle.verdict.specs.declared.bench.Verdict.TheVariants.{Pass, Fail}

-- A fraction is the answer exactly where no row refuses the test point and the fraction equals the limit and is in lowest terms. There is one such
-- pair of numbers.
abbrev pub LimitExactly : TestPoint → Result Fraction Refusal → Type 0
LimitExactly p answer =
    (r : Fraction) → (answer ≡ Ok r) ↔ (Admitted p × Represents r (limit_of (figures_of p.class) p) × InLowestTerms r)

-- The comparison is a pass exactly where 55 is not given and |I − X| × 100 × denominator ≤ numerator × X, in whole numbers.
abbrev pub ComparedExactly : Fraction → ℕ → ℕ → Result Verdict Refusal → Type 0
ComparedExactly l i x answer =
    (answer ≡ Ok Pass) ↔ (NoneApplies (comparison_rows l i x) × (absolute_error i x * 100 * l.denominator ≤ l.numerator * x))

-- The verdict is a pass exactly where none of the six rows applies and |I − X| × 100 is at most X times the test point's limit, as fractions.
abbrev pub PassesExactly : TestPoint → ℕ → ℕ → Result Verdict Refusal → Type 0
PassesExactly p i x answer =
    (answer ≡ Ok Pass) ↔
    (NoneApplies (verdict_rows p i x) × AtMost (whole (absolute_error i x * 100)) (times (limit_of (figures_of p.class) p) (whole x)))

-- The test point with another stage in place of its own.
abbrev pub at_stage : ℕ → TestPoint → TestPoint
at_stage s p =
    record {
      part = p.part;
      class = p.class;
      stage = s;
      delta_min = p.delta_min;
      difference = p.difference;
      qp = p.qp;
      q = p.q;
    }

-- What passes at verification passes in service, where the limit is the wider one.
abbrev pub InService : Type 0
InService = (p : TestPoint) (i x : ℕ) → verdict_of (at_stage 1 p) i x ≡ Ok Pass → verdict_of (at_stage 2 p) i x ≡ Ok Pass

-- What the limit and the comparison answer one after the other: the comparison with the limit that was answered, or the limit's refusal.
abbrev pub compared_with : Result Fraction Refusal → ℕ → ℕ → Result Verdict Refusal
compared_with (Ok l) i x = comparison_of l i x
compared_with (Err r) i x = Err r

-- The limit and the comparison together answer what the verdict answers, its refusals included.
abbrev pub FromPair : Type 0
FromPair = (p : TestPoint) (i x : ℕ) → compared_with (error_limit_of p) i x ≡ verdict_of p i x

-- Limits that are equal as fractions are compared alike, in lowest terms or not.
abbrev pub EqualComparisons : Type 0
EqualComparisons = (l m : Fraction) (i x : ℕ) → IsFraction l → IsFraction m → Same l m → comparison_of l i x ≡ comparison_of m i x

-- An indicated value as far above X as another lies below it gets the same verdict: the two are I and 2X − I, here i and j. 55 could refuse the upper
-- one alone, so both are supposed to be no larger than the largest value.
abbrev pub Mirrored : Type 0
Mirrored =
    (p : TestPoint) (i j x : ℕ) → i + j ≡ 2 * x → i ≤ largest_value → j ≤ largest_value → verdict_of p i x ≡ verdict_of p j x

-- The limit of a complete instrument in one formula: k + 4 × Δmin/Δ + n/100 × qp/q. Published rules print it so; docs/DECISIONS.md, "Error verdict",
-- names them.
abbrev pub formula : ℕ → ℕ → TestPoint → Fraction
formula k n p = plus (plus (whole k) (times (whole 4) (difference_ratio p))) (times (hundredths n) (flow_ratio p))

-- A class has such a formula if the formula equals the limit of its complete instrument at verification, as long as the cap of 5 takes nothing off the
-- flow sensor's part.
abbrev pub HasFormula : ℕ → ℕ → ℕ → Type 0
HasFormula class k n =
    (p : TestPoint) → Admitted p → p.part ≡ 4 → p.class ≡ class → p.stage ≡ 1 →
    AtMost (flow_sensor_sum (figures_of p.class) p) (whole 5) → Represents (formula k n p) (limit_of (figures_of p.class) p)

-- The formulas of the three classes: 2 + 4 × Δmin/Δ + 0.01 × qp/q in class 1, 3 + 4 × Δmin/Δ + 0.02 × qp/q in class 2 and
-- 4 + 4 × Δmin/Δ + 0.05 × qp/q in class 3.
abbrev pub CompleteFormula : Type 0
CompleteFormula = HasFormula 1 2 1 × HasFormula 2 3 2 × HasFormula 3 4 5

-- At verification no complete instrument's limit passes 10 percent. So a cap of 10 on the sum, which some national rules have, decides nothing there.
abbrev pub AtMost10 : Type 0
AtMost10 = (p : TestPoint) → Admitted p → p.part ≡ 4 → p.stage ≡ 1 → AtMost (limit_of (figures_of p.class) p) (whole 10)

-- The verdict by part, D, qp, q and I, where all else is fixed: class 2, at verification, a Δmin of 3 K and an X of 1000000.
abbrev pub verdict_at : ℕ → ℕ → ℕ → ℕ → ℕ → Result Verdict Refusal
verdict_at part d qp q i =
    verdict_of
    (record { part = part; class = 2; stage = 1; delta_min = 3; difference = record { 0 = d }; qp = qp; q = q })
    i
    1000000

-- Edges of the limits in figures: the last value that passes, and beside it one that fails.
pub record VerdictEdges : Type 0 where
  -- The calculator where Δ is Δmin: 0.5 + 1 percent of X are 15000, above X and below it.
  pub calculator_upper : verdict_at 1 300 1 1 1015000 ≡ Ok Pass
  pub calculator_above : verdict_at 1 300 1 1 1015001 ≡ Ok Fail
  pub calculator_lower : verdict_at 1 300 1 1 985000 ≡ Ok Pass
  pub calculator_below : verdict_at 1 300 1 1 984999 ≡ Ok Fail
  -- A complete instrument where Δ is 10 × Δmin, and q is qp: 0.6 + 0.8 + 2.02 percent are 34200.
  pub complete_upper : verdict_at 4 3000 1 1 1034200 ≡ Ok Pass
  pub complete_above : verdict_at 4 3000 1 1 1034201 ≡ Ok Fail
  -- A flow sensor where qp is 250 times q: 2 + 0.02 × 250 would be 7 percent, and the cap leaves 5, which are 50000.
  pub flow_sensor_upper : verdict_at 3 300 2500 10 1050000 ≡ Ok Pass
  pub flow_sensor_above : verdict_at 3 300 2500 10 1050001 ≡ Ok Fail
