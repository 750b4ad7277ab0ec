-- The numbers of the two ends of a temperature's range are apart: the low end's are below 70, the high end's from 70 on.
-- Assumes nothing.
use mathlib.Core.Path.{refl}
use Prim.Native.Nat.{◌≤◌, ◌<◌}
use native.Mathlib.Omega.{arith}
use Rattle.quantity.specs.Refusals.{number_of}
use Rattle.quantity.specs.Range.{refusal_at_end, end_number}
use Rattle.quantity.specs.Theorems.{TellsEnd}
use Rattle.quantity.specs.declared.range.Role.{Role}
use Rattle.quantity.specs.declared.range.Role.TheVariants.{Alone, Supply, Return}
use Rattle.quantity.specs.declared.range.End.TheVariants.{Low, High}

low_number : (p : Role) → end_number p Low < 70
unfolding refusal_at_end number_of
low_number Alone = omega arith
low_number Supply = omega arith
low_number Return = omega arith

high_number : (p : Role) → 70 ≤ end_number p High
unfolding refusal_at_end number_of
high_number Alone = omega arith
high_number Supply = omega arith
high_number Return = omega arith

pub tells_end : TellsEnd
tells_end p q Low Low h = refl
tells_end p q High High h = refl
tells_end p q Low High h = absurd (omega (arith, low_number p, high_number q))
tells_end p q High Low h = absurd (omega (arith, low_number q, high_number p))
