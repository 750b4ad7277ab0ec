-- The two operations that make up the verdict, so that a certificate can show the limit beside the pass or fail: the limit at a test point, as a
-- fraction in lowest terms, and the comparison of an error with any limit that is given. One after the other they answer what the verdict answers
-- (`FromPair` of specs/Theorems.antt). docs/OPERATIONS.md: "Error limits, comparison and verdict".
use Rattle.std.specs.Prelude.{ℕ, Result, Ok}
use Rattle.std.specs.Result.{result_and}
use Rattle.quantity.specs.Divisors.{reduced}
use Rattle.quantity.specs.Refusals.{first_of}
use Rattle.quantity.specs.declared.fraction.Fraction.{Fraction}
use Rattle.quantity.specs.declared.refusal.Refusal.{Refusal}
use Rattle.verdict.specs.Limit.{figures_of, limit_of}
use Rattle.verdict.specs.Rows.{point_rows, comparison_rows}
use Rattle.verdict.specs.Verdict.{passes, answer}
use Rattle.verdict.specs.declared.bench.Verdict.{Verdict}
use Rattle.verdict.specs.declared.point.TestPoint.{TestPoint}

-- The limit at a test point in percent, reduced: no whole number above 1 divides both its numbers. Or the first of the refusals 50 to 54.
unfoldable pub error_limit_of : TestPoint → Result Fraction Refusal
error_limit_of p = result_and (first_of (point_rows p)) (Ok (reduced (limit_of (figures_of p.class) p)))

-- The comparison of the indicated value i's error, x being the conventional true value, with a limit of l percent, in lowest terms or not; or the
-- refusal 55.
unfoldable pub comparison_of : Fraction → ℕ → ℕ → Result Verdict Refusal
comparison_of l i x = result_and (first_of (comparison_rows l i x)) (Ok (answer (passes l i x)))
