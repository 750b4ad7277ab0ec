-- Laws of the two registers, whatever stands in them.
-- Assumes nothing.
use mathlib.Core.Path.{◌≡◌, refl}
use mathlib.Core.Bool.{true}
use Prim.Native.Nat.{ℕ, ◌+◌, ◌≤◌}
use native.Mathlib.Omega.{arith}
use Rattle.meter.specs.State.{zeros, largest_register}
use Rattle.meter.specs.Register.{register_of, is_same, added_to}
use Rattle.meter.specs.Step.{refusing}
use Rattle.meter.specs.declared.card.Card.{Card}
use Rattle.meter.specs.declared.register.Register.{Register}
use Rattle.meter.specs.declared.register.Register.TheVariants.{Heat, Cold}
use Rattle.meter.specs.declared.state.Meter.{Meter}

-- a register is itself
pub same : (r : Register) → is_same r r ≡ true
same Heat = refl
same Cold = refl

-- a refused sample changes neither, and a fresh meter's are zero
pub unchanged : (r : Register) (m : Meter) → register_of r (refusing m) ≡ register_of r m
unchanged Heat m = refl
unchanged Cold m = refl

pub empty : (r : Register) (c : Card) (e : ℕ) → register_of r (zeros c e) ≡ 0
empty Heat c e = refl
empty Cold c e = refl

-- where both registers keep their limit and own has room for some mJ, there is room in each for what they add to it
pub room_in_each : (r own : Register) (m : Meter) (n : ℕ) → ((q : Register) → register_of q m ≤ largest_register) → register_of own m + n ≤ largest_register →
    register_of r m + added_to r own n ≤ largest_register
room_in_each r own m n h g = by r own g
  where
    by : (r own : Register) → register_of own m + n ≤ largest_register → register_of r m + added_to r own n ≤ largest_register
    by Heat Heat g = g
    by Cold Cold g = g
    by Heat Cold g = omega (arith, h Heat)
    by Cold Heat g = omega (arith, h Cold)
