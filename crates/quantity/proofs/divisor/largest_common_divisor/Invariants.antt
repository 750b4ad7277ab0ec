-- `quantity::divisor::largest_common_divisor` meets its contract. The loop's invariant: the two numbers have the largest common divisor that those
-- given have. Each turn, the second one falls.
use Rattle.std.proofs.Common.{◌≡◌}
use Rattle.quantity.specs.Divisors.{largest_common_divisor}
use Rattle.quantity.proofs.divisor.largest_common_divisor.Given as goal

abbrev pub invariant-loop-second : goal.invariant-loop-second
invariant-loop-second l = largest_common_divisor l.first l.second ≡ largest_common_divisor l.a l.b

abbrev pub decreases-loop-second : goal.decreases-loop-second
decreases-loop-second l = l.second
