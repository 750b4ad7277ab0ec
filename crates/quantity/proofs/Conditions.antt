-- What a condition of a row says, where it is false.
-- Assumes nothing.
use mathlib.Core.Path.{◌≡◌, refl}
use mathlib.Core.Bool.{Bool, true, false, ◌&&◌, ◌||◌}
use Prim.Native.Nat.{ℕ, ◌≤◌}
use lib.Dec.{ltb}
use borrow.Author.Tests.{ltb-false}
use Rattle.quantity.specs.Refusals.{outside}

pub neither : (a b : Bool) → (a || b) ≡ false → (a ≡ false) × (b ≡ false)
neither true b e = absurd cc
neither false b e = (refl, e)

pub both : (a b : Bool) → (a && b) ≡ true → (a ≡ true) × (b ≡ true)
both true b e = (refl, e)
both false b e = absurd cc

pub inside : (x low high : ℕ) → outside x low high ≡ false → (low ≤ x) × (x ≤ high)
unfolding outside
inside x low high e =
    let p = neither (ltb x low) (ltb high x) e in
    (ltb-false x low p.0, ltb-false high x p.1)
