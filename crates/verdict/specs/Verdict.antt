-- The verdict on an indicated value I, X being the conventional true value: it passes if the error, in percent of X, is no larger than the limit at the
-- test point, and fails if it is larger. Nothing is divided or rounded: the error and the limit are compared after both are multiplied by X, as exact
-- fractions. In the definitions I and X are i and x. docs/OPERATIONS.md: "Error limits, comparison and verdict".
use Rattle.std.specs.Prelude.{ℕ, ◌-◌, ◌*◌, min, max, Bool, true, false, Result, Ok}
use Rattle.std.specs.Result.{result_and}
use Rattle.quantity.specs.Fractions.{whole, times, is_at_most}
use Rattle.quantity.specs.Refusals.{first_of}
use Rattle.quantity.specs.declared.refusal.Refusal.{Refusal}
use Rattle.verdict.specs.Limit.{figures_of, limit_of}
use Rattle.verdict.specs.Rows.{verdict_rows}
use Rattle.quantity.specs.declared.fraction.Fraction.{Fraction}
use Rattle.verdict.specs.declared.point.TestPoint.{TestPoint}
use Rattle.verdict.specs.declared.bench.Verdict.{Verdict}
use Rattle.verdict.specs.declared.bench.Verdict.TheVariants.{Pass, Fail}

-- The error without its sign, |I − X|: the larger value less the smaller, so that the subtraction never stops at 0.
abbrev pub absolute_error : ℕ → ℕ → ℕ
absolute_error i x = max i x - min i x

-- Whether the error is within a limit of l percent: |I − X| × 100 ≤ l × X. An error that equals the limit is within it.
unfoldable pub passes : Fraction → ℕ → ℕ → Bool
passes l i x = is_at_most (whole (absolute_error i x * 100)) (times l (whole x))

-- The answer: a pass if the error is within the limit, and otherwise a fail.
abbrev pub answer : Bool → Verdict
answer true = Pass
answer false = Fail

-- The verdict at a test point on the indicated value i, x being the conventional true value: the first of the refusals 50 to 55, or else whether the
-- error is within the test point's limit.
unfoldable pub verdict_of : TestPoint → ℕ → ℕ → Result Verdict Refusal
verdict_of p i x = result_and (first_of (verdict_rows p i x)) (Ok (answer (passes (limit_of (figures_of p.class) p) i x)))
