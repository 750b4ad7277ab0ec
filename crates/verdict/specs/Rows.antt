-- What refuses a test point, two values and a limit that is given: the refusals 50 to 55. The two values are the indicated one and the conventional
-- true one. A row is a refusal with the condition under which it is given; it applies where its condition holds. Rows are tried in order, and the first
-- that applies decides (`first_of` of quantity's Refusals). The limit tries the five rows of the test point, 50 to 54, all of them for every part, also
-- those on numbers that the part's limit does not use; the comparison tries 55; the verdict tries all six.
-- docs/OPERATIONS.md: "Error limits, comparison and verdict", and "Refusals" for each number's sentence.
use Rattle.std.specs.Prelude.{ℕ, ◌-◌, ◌^◌, ◌≡◌, Bool, ◌||◌, List, [], ◌∷◌, ◌++◌, ltb, eqb, Ok}
use Rattle.quantity.specs.Units.{largest_kelvins, whole_kelvins, is_smaller}
use Rattle.quantity.specs.Refusals.{row, outside, first_of}
use Rattle.quantity.specs.declared.fraction.Fraction.{Fraction}
use Rattle.quantity.specs.declared.refusal.Refusal.TheVariants as R
use Rattle.quantity.specs.declared.refusal.Row.{Row}
use Rattle.quantity.specs.declared.units.Difference.{Difference}
use Rattle.verdict.specs.declared.point.TestPoint.{TestPoint}

-- 53: Δmin, which is δ here, is none of 1, 2 and 3 K, or the temperature difference d of the test is below Δmin or above 180 K. That of the test is in
-- hundredths of a kelvin, and so are the two ends that it is held to.
unfoldable pub difference_outside : ℕ → Difference → Bool
difference_outside δ d = outside δ 1 3 || is_smaller d (whole_kelvins δ) || is_smaller (whole_kelvins largest_kelvins) d

-- The largest flow rate, in the one unit that qp and q have.
abbrev pub largest_flow : ℕ
largest_flow = 10 ^ 9

-- 54: one of qp and q is 0 or above the largest flow rate.
unfoldable pub flow_outside : ℕ → ℕ → Bool
flow_outside qp q = outside qp 1 largest_flow || outside q 1 largest_flow

-- The largest value that can be compared, in the one unit that the two values have.
abbrev pub largest_value : ℕ
largest_value = 10 ^ 12 - 1

-- 55: the conventional true value x is 0, so that there is no error in percent, or x or the indicated value i is too large.
unfoldable pub value_outside : ℕ → ℕ → Bool
value_outside i x = eqb x 0 || ltb largest_value i || ltb largest_value x

-- The rows of a test point: its part, its class, its stage, its differences, its flow rates.
abbrev pub point_rows : TestPoint → List Row
point_rows p =
    row R.Part (outside p.part 1 4)
    ∷ row R.Class (outside p.class 1 3)
    ∷ row R.Stage (outside p.stage 1 2)
    ∷ row R.TestDifference (difference_outside p.delta_min p.difference)
    ∷ row R.TestFlow (flow_outside p.qp p.q)
    ∷ []

-- The row of the indicated value i and the conventional true value x.
abbrev pub value_rows : ℕ → ℕ → List Row
value_rows i x = row R.Values (value_outside i x) ∷ []

-- 55 where the two values are compared with a limit that is given, which may be any two numbers: with a denominator of 0 it is no fraction, and is
-- refused too.
unfoldable pub incomparable : Fraction → ℕ → ℕ → Bool
incomparable l i x = value_outside i x || eqb l.denominator 0

-- The only row of such a comparison.
abbrev pub comparison_rows : Fraction → ℕ → ℕ → List Row
comparison_rows l i x = row R.Values (incomparable l i x) ∷ []

-- The rows of the verdict: those of the test point, then that of the values.
abbrev pub verdict_rows : TestPoint → ℕ → ℕ → List Row
verdict_rows p i x = point_rows p ++ value_rows i x

-- A test point is admitted if no row refuses it. The theorems suppose this of a test point, and the code makes sure of it before it works out a
-- limit.
abbrev pub Admitted : TestPoint → Type 0
Admitted p = first_of (point_rows p) ≡ Ok tt
