-- No part of the sum passes 64 bits, since the sum is the quotient and that does not.
use Rattle.std.proofs.Common.{arith}
use Rattle.std.proofs.Math.Nat.{div-lt_iff_lt-mul}
use Rattle.quantity.proofs.Floors.{by_parts}
use Rattle.water.proofs.parts.scaled_quotient.Goals as goal

pub overflow_mul-result : goal.overflow_mul-result
overflow_mul-result c = omega (arith, by_parts c.args.k c.args.a c.args.b c.requires.0, (div-lt_iff_lt-mul c.requires.0).1 c.requires.2)

pub overflow_add-result : goal.overflow_add-result
overflow_add-result c = omega (arith, by_parts c.args.k c.args.a c.args.b c.requires.0, (div-lt_iff_lt-mul c.requires.0).1 c.requires.2)
