-- Nothing is left of the second number, so the first one is their divisor.
use Rattle.std.proofs.Common.{ℕ, sym, subst, ap, arith, ◌∙◌}
use Rattle.quantity.specs.Divisors.{largest_common_divisor, IsLargestCommonDivisor}
use Rattle.quantity.proofs.Divisors.{divisor_of_zero, is_largest_common_divisor}
use Rattle.quantity.proofs.divisor.largest_common_divisor.Goals as goal

pub returns-clause-answer : goal.returns-clause-answer
returns-clause-answer c =
    let l = c.loop-second in
    divisor_of_zero l.first ∙ ap (λ (x : ℕ). largest_common_divisor l.first x) (omega arith) ∙ l.invariant

pub returns-clause-is_largest_common_divisor : goal.returns-clause-is_largest_common_divisor
returns-clause-is_largest_common_divisor c =
    subst (λ (g : ℕ). IsLargestCommonDivisor g c.args.a c.args.b) (sym (returns-clause-answer c)) (is_largest_common_divisor c.args.a c.args.b)
