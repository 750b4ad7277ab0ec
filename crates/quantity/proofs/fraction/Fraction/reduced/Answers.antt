-- Reduced, a fraction is in lowest terms.
use Rattle.std.proofs.Common.{rules}
use Rattle.quantity.specs.Divisors.{reduced}
use Rattle.quantity.proofs.LowestTerms.{zeros_stay, reduced_exactly}
use Rattle.quantity.proofs.fraction.Fraction.reduced.Goals as goal

pub returns-then-divisor-eq0-clause-answer : goal.returns-then-divisor-eq0-clause-answer
returns-then-divisor-eq0-clause-answer c = zeros_stay c.args.self (search rules)

pub returns-then-divisor-eq0-clause-reduced_exactly : goal.returns-then-divisor-eq0-clause-reduced_exactly
returns-then-divisor-eq0-clause-reduced_exactly c = reduced_exactly c.args.self _ (returns-then-divisor-eq0-clause-answer c)

pub returns-clause-answer : goal.returns-clause-answer
unfolding reduced
returns-clause-answer c = search rules

pub returns-clause-reduced_exactly : goal.returns-clause-reduced_exactly
returns-clause-reduced_exactly c = reduced_exactly c.args.self _ (returns-clause-answer c)
