-- The maximum permissible errors of a heat meter and of its parts, in percent (OIML R 75-1, 9.2 at verification and 9.4 in service): the figures
-- of the flow sensor's accuracy classes, then the limit of each part at verification, and last what the stage makes of it. For class 1 that
-- recommendation leaves the figures open and presumes some in a note, with a cap of 3.5 percent on the flow sensor; here all classes have the cap of
-- 5. docs/OPERATIONS.md, "Error limits, comparison and verdict", has the limits in a table.
-- A test point tells what is tested and under which conditions: the part, its class, the stage, which is verification or service, the smallest
-- temperature difference Δmin, the temperature difference of the test, the permanent flow rate qp and the flow rate q of the test. Δ is the difference
-- of the test in kelvins; a test point has it as D, in hundredths of a kelvin.
-- A limit is an exact fraction, added and compared as quantity's Fractions tells. It is asked for only where none of 50 to 54 refuses the test point
-- (specs/Rows.antt), and there its denominator is above zero (`limit_is_fraction` of proofs/Positive.antt).
use Rattle.std.specs.Prelude.{ℕ, ◌*◌, cond, eqb}
use Rattle.quantity.specs.Fractions.{◌over◌, whole, plus, times, smaller}
use Rattle.quantity.specs.declared.fraction.Fraction.{Fraction}
use Rattle.verdict.specs.declared.class.Figures.{Figures}
use Rattle.verdict.specs.declared.point.TestPoint.{TestPoint}

-- So many hundredths: the figures of a class are counted in hundredths of a percent.
abbrev pub hundredths : ℕ → Fraction
hundredths n = n over 100

-- What a class fixes for its flow sensor, in hundredths of a percent: a constant c, a factor f for qp/q, and a cap m on the two together.
abbrev pub figures : ℕ → ℕ → ℕ → Figures
figures c f m = record { constant = c; factor = f; cap = m }

-- The cap is one for all classes: 5 percent.
abbrev pub fixed_cap : ℕ
fixed_cap = 500

-- Class 1: 1 + 0.01 × qp/q.
abbrev pub figures1 : Figures
figures1 = figures 100 1 fixed_cap

-- Class 2: 2 + 0.02 × qp/q.
abbrev pub figures2 : Figures
figures2 = figures 200 2 fixed_cap

-- Class 3: 3 + 0.05 × qp/q.
abbrev pub figures3 : Figures
figures3 = figures 300 5 fixed_cap

-- The figures of a class, by its number. A number that names no class is refused with 51 before a limit is asked for, so that the last case is class 3.
unfoldable pub figures_of : ℕ → Figures
figures_of class = cond (eqb class 1) figures1 (cond (eqb class 2) figures2 figures3)

-- Δmin/Δ: the smallest temperature difference, in whole kelvins, over that of the test. The 100 brings both to hundredths of a kelvin.
abbrev pub difference_ratio : TestPoint → Fraction
difference_ratio p = 100 * p.delta_min over p.difference.0

-- qp/q: the permanent flow rate over the flow rate of the test.
abbrev pub flow_ratio : TestPoint → Fraction
flow_ratio p = p.qp over p.q

-- The calculator: 0.5 + Δmin/Δ.
unfoldable pub calculator_limit : TestPoint → Fraction
calculator_limit p = plus (1 over 2) (difference_ratio p)

-- The temperature sensor pair: 0.5 + 3 × Δmin/Δ.
unfoldable pub pair_limit : TestPoint → Fraction
pair_limit p = plus (1 over 2) (times (whole 3) (difference_ratio p))

-- The flow sensor before its cap: constant + factor × qp/q.
unfoldable pub flow_sensor_sum : Figures → TestPoint → Fraction
flow_sensor_sum f p = plus (hundredths f.constant) (times (hundredths f.factor) (flow_ratio p))

-- The flow sensor: the sum above, but never more than the cap.
unfoldable pub flow_sensor_limit : Figures → TestPoint → Fraction
flow_sensor_limit f p = smaller (flow_sensor_sum f p) (hundredths f.cap)

-- The complete instrument: calculator, sensor pair and flow sensor added up. Only the flow sensor's part is capped; the sum has no cap of its own.
unfoldable pub complete_limit : Figures → TestPoint → Fraction
complete_limit f p = plus (plus (calculator_limit p) (pair_limit p)) (flow_sensor_limit f p)

-- The limit of a part at verification, by the part's number: 1 the calculator, 2 the temperature sensor pair, 3 the flow sensor, 4 the complete
-- instrument. Any other number is refused with 50 before, so that the last case is 4.
unfoldable pub part_limit : Figures → TestPoint → Fraction
part_limit f p =
    cond (eqb p.part 1) (calculator_limit p)
    (cond (eqb p.part 2) (pair_limit p)
    (cond (eqb p.part 3) (flow_sensor_limit f p)
    (complete_limit f p)))

-- What the stage makes of that limit: verification, 1, leaves it as it is; in service, 2, it is doubled, after cap and sum, and not capped again. Any
-- other number is refused with 52 before.
abbrev pub limit_at_stage : ℕ → Fraction → Fraction
limit_at_stage stage l = cond (eqb stage 1) l (times (whole 2) l)

-- The limit of a test point, by any figures f; those of its class are `figures_of p.class`.
unfoldable pub limit_of : Figures → TestPoint → Fraction
limit_of f p = limit_at_stage p.stage (part_limit f p)
