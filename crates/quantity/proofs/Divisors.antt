-- The largest common divisor: it divides both numbers, every number that does divides it, and Euclid's step keeps it.
-- Assumes nothing.
use mathlib.Core.Path.{◌≡◌, refl, subst}
use mathlib.Core.Bool.{Bool, true, false}
use Prim.Native.Nat.{ℕ, zero, suc, ◌%◌, ◌∣◌, ◌≤◌, ◌<◌, max}
use native.Mathlib.Nat.{le_refl, le_antisymm, mod-lt, mod-eq-zero_of_dvd, dvd_of_mod-eq-zero, dvd-mod_iff, dvd_refl, dvd-zero, le_of_dvd, pos_of_dvd_of_pos, eq-zero_of_zero-dvd}
use native.Mathlib.Omega.{arith}
use lib.Dec.{eqb}
use borrow.Author.Tests.{eqb-true, eqb-false, eq-eqb}
use Rattle.quantity.specs.Largest.{largest}
use Rattle.quantity.specs.Divisors.{divides_both, largest_common_divisor, IsLargestCommonDivisor}
use Rattle.quantity.proofs.Conditions.{both}
use Rattle.quantity.proofs.Largest.{bounded, holds, at_least}

-- the test, as the two statements
tested : (a b k : ℕ) → k ∣ a → k ∣ b → divides_both a b k ≡ true
unfolding divides_both
tested a b k p q = simp (eq-eqb (a % k) 0 (mod-eq-zero_of_dvd k p), eq-eqb (b % k) 0 (mod-eq-zero_of_dvd k q))

tells : (a b k : ℕ) → divides_both a b k ≡ true → (k ∣ a) × (k ∣ b)
unfolding divides_both
tells a b k e =
    let s = both (eqb (a % k) 0) (eqb (b % k) 0) e in
    (dvd_of_mod-eq-zero k (eqb-true _ _ s.0), dvd_of_mod-eq-zero k (eqb-true _ _ s.1))

-- a divisor of both is in the range that is searched
in_range : (a b k : ℕ) → 0 < max a b → k ∣ a → k ∣ b → (0 < k) × (k ≤ max a b)
in_range a b k h p q = go (eqb a 0) refl
  where
    go : (t : Bool) → eqb a 0 ≡ t → (0 < k) × (k ≤ max a b)
    go true e =
        let z = eqb-true a 0 e in
        let b_above : 0 < b = omega arith in
        (pos_of_dvd_of_pos q b_above, omega (arith, le_of_dvd b_above q))
    go false e =
        let z = eqb-false a 0 e in
        let a_above : 0 < a = omega (arith, z) in
        (pos_of_dvd_of_pos p a_above, omega (arith, le_of_dvd a_above p))

-- a number with the two sentences is the one that the search finds: none larger divides both, since it would divide a smaller one
found : (g a b : ℕ) → IsLargestCommonDivisor g a b → g ≡ largest_common_divisor a b
unfolding largest_common_divisor
found g a b h = go (eqb (max a b) 0) refl
  where
    go : (t : Bool) → eqb (max a b) 0 ≡ t → g ≡ largest (divides_both a b) (max a b)
    go true e =
        let z = eqb-true (max a b) 0 e in
        let az : a ≡ 0 = omega arith in
        let bz : b ≡ 0 = omega arith in
        let gz = eq-zero_of_zero-dvd (h.every 0 (rw az (dvd-zero 0)) (rw bz (dvd-zero 0))) in
        omega (arith, gz, bounded (divides_both a b) (max a b))
    go false e =
        let above : 0 < max a b = omega (arith, eqb-false (max a b) 0 e) in
        let g_in = in_range a b g above h.first h.second in
        let t = tested a b g h.first h.second in
        let d = tells a b _ (holds (divides_both a b) (max a b) g g_in.1 t) in
        le_antisymm (at_least (divides_both a b) (max a b) g g_in.1 t) (le_of_dvd g_in.0 (h.every _ d.0 d.1))

-- Euclid's step
stepped : (g a b : ℕ) → IsLargestCommonDivisor g b (a % b) → IsLargestCommonDivisor g a b
stepped g a b h = record {
  first = (dvd-mod_iff g {m = a} {n = b} h.first).0 h.second;
  second = h.first;
  every = λ k p q. h.every k q ((dvd-mod_iff k {m = a} {n = b} q).1 p);
}

of_zero : (a : ℕ) → IsLargestCommonDivisor a a 0
of_zero a = record { first = dvd_refl a; second = dvd-zero a; every = λ k p q. p }

-- there is such a number: each step makes the second one smaller
exists : (most a b : ℕ) → b ≤ most → (g : ℕ) × IsLargestCommonDivisor g a b
exists zero a b h = let z : b ≡ 0 = omega arith in (a, rw z (of_zero a))
exists (suc most) a b h = go (eqb b 0) refl (exists most b (a % b))
  where
    go : (t : Bool) → eqb b 0 ≡ t → (a % b ≤ most → (g : ℕ) × IsLargestCommonDivisor g b (a % b)) → (g : ℕ) × IsLargestCommonDivisor g a b
    go true e f = let z = eqb-true b 0 e in (a, rw z (of_zero a))
    go false e f =
        let z = eqb-false b 0 e in
        let rest = f (omega (arith, mod-lt a {m = b} (omega (arith, z)))) in
        (rest.0, stepped rest.0 a b rest.1)

pub is_largest_common_divisor : (a b : ℕ) → IsLargestCommonDivisor (largest_common_divisor a b) a b
is_largest_common_divisor a b = let some = exists b a b (le_refl b) in subst (λ (x : ℕ). IsLargestCommonDivisor x a b) (found _ a b some.1) some.1

-- what the loop needs
pub divisor_of_zero : (a : ℕ) → a ≡ largest_common_divisor a 0
divisor_of_zero a = found a a 0 (of_zero a)

pub divisor_of_step : (a b : ℕ) → largest_common_divisor b (a % b) ≡ largest_common_divisor a b
divisor_of_step a b = found _ a b (stepped _ a b (is_largest_common_divisor b (a % b)))
