-- Lowest terms: reduced, a fraction is in them, and no other pair of numbers in lowest terms is the same fraction.
-- Assumes nothing.
use mathlib.Core.Path.{◌≡◌, refl, sym, ◌∙◌, ap, subst}
use Prim.Native.Nat.{ℕ, ◌*◌, ◌/◌, ◌∣◌, ◌<◌}
use native.Mathlib.Nat.{mul-one, one-mul, dvd_trans, dvd_antisymm, dvd-mul_left, dvd-mul_right, mul-dvd-mul_left, mul-dvd-mul_right, dvd_of_mul-dvd-mul_left, dvd_of_mul-dvd-mul_right, mul-div_cancel', div-mul_cancel, pos_of_dvd_of_pos, eq-one_of_dvd-one, eq_of_mul-eq-mul_right, eq-zero_of_zero-dvd, div-zero}
use native.Mathlib.Omega.{arith}
use Rattle.quantity.specs.Divisors.{largest_common_divisor, InLowestTerms, reduced}
use Rattle.quantity.specs.Fractions.{◌over◌, IsFraction, Same, Represents}
use Rattle.quantity.specs.Theorems.{ReducedExactly}
use Rattle.quantity.specs.declared.fraction.Fraction.{Fraction}
use Rattle.quantity.proofs.Divisors.{is_largest_common_divisor}

-- the largest common divisor of k-fold numbers divides k times that of the numbers
of_multiples : (k a b : ℕ) → 0 < k → largest_common_divisor (k * a) (k * b) ∣ k * largest_common_divisor a b
of_multiples k a b h =
    let m = is_largest_common_divisor (k * a) (k * b) in
    let g = largest_common_divisor (k * a) (k * b) in
    let q = g / k in
    let e : k * q ≡ g = mul-div_cancel' k (m.every k (dvd-mul_right k a) (dvd-mul_right k b)) in
    let p = dvd_of_mul-dvd-mul_left q h (subst (λ (x : ℕ). x ∣ k * a) (sym e) m.first) in
    let r = dvd_of_mul-dvd-mul_left q h (subst (λ (x : ℕ). x ∣ k * b) (sym e) m.second) in
    subst (λ (x : ℕ). x ∣ k * largest_common_divisor a b) e (mul-dvd-mul_left q k ((is_largest_common_divisor a b).every q p r))

-- of a fraction in lowest terms: where the denominator divides a multiple of the numerator, it divides the multiplier
multiplier : (x : Fraction) (k : ℕ) → InLowestTerms x → 0 < k → x.denominator ∣ k * x.numerator → x.denominator ∣ k
multiplier x k low h p =
    let n = x.numerator in
    let d = x.denominator in
    let m = is_largest_common_divisor n d in
    let one = low _ m.first m.second in
    let g = (is_largest_common_divisor (k * n) (k * d)).every d p (dvd-mul_left d k) in
    subst (λ (y : ℕ). d ∣ y) (ap (λ (y : ℕ). k * y) one ∙ mul-one k) (dvd_trans d g (of_multiples k n d h))

-- two pairs in lowest terms that are the same fraction are the same pair
one_pair : (x y : Fraction) → IsFraction x → IsFraction y → InLowestTerms x → InLowestTerms y → Same x y → x ≡ y
one_pair x y p q first second e =
    let n = x.numerator in
    let d = x.denominator in
    let m = y.numerator in
    let c = y.denominator in
    let there : d ∣ c = multiplier x c first q (subst (λ (z : ℕ). d ∣ z) (omega (arith, e)) (dvd-mul_left d m)) in
    let back : c ∣ d = multiplier y d second p (subst (λ (z : ℕ). c ∣ z) (omega (arith, e)) (dvd-mul_left c n)) in
    let lower : d ≡ c = dvd_antisymm there back in
    let upper : n ≡ m = eq_of_mul-eq-mul_right c q n m (e ∙ ap (λ (z : ℕ). m * z) lower) in
    ap (λ (z : ℕ). z over d) upper ∙ ap (λ (z : ℕ). m over z) lower

-- fractions that equal a third are equal
same_as : (x y z : Fraction) → IsFraction y → Same x y → Same z y → Same x z
same_as x y z p e f =
    eq_of_mul-eq-mul_right y.denominator p _ _
    (omega (arith, ap (λ (w : ℕ). w * z.denominator) e, ap (λ (w : ℕ). w * x.denominator) f))

-- two zeros stay as they are
divided_by_zero : (n g : ℕ) → g ≡ 0 → g ∣ n → n ≡ n / g
divided_by_zero n g e h =
    eq-zero_of_zero-dvd (subst (λ (d : ℕ). d ∣ n) e h) ∙ sym (div-zero n) ∙ ap (λ (d : ℕ). n / d) (sym e)

pub zeros_stay : (x : Fraction) → largest_common_divisor x.numerator x.denominator ≡ 0 → x ≡ reduced x
unfolding reduced
zeros_stay x e =
    let g = largest_common_divisor x.numerator x.denominator in
    let m = is_largest_common_divisor x.numerator x.denominator in
    ap (λ (n : ℕ). n over x.denominator) (divided_by_zero x.numerator g e m.first)
    ∙ ap (λ (d : ℕ). (x.numerator / g) over d) (divided_by_zero x.denominator g e m.second)

-- reduced, a fraction is the same ..
pub reduced_represents : (x : Fraction) → IsFraction x → Represents (reduced x) x
unfolding reduced
reduced_represents x p =
    let n = x.numerator in
    let d = x.denominator in
    let g = largest_common_divisor n d in
    let m = is_largest_common_divisor n d in
    let a = div-mul_cancel g m.first in
    let b = div-mul_cancel g m.second in
    record {
      is_fraction = pos_of_dvd_of_pos (subst (λ (z : ℕ). d / g ∣ z) b (dvd-mul_right (d / g) g)) p;
      same = ap (λ (z : ℕ). n / g * z) (sym b) ∙ omega arith ∙ ap (λ (z : ℕ). z * (d / g)) a;
    }

-- .. in lowest terms
pub reduced_is_lowest : (x : Fraction) → IsFraction x → InLowestTerms (reduced x)
unfolding reduced
reduced_is_lowest x p k s t =
    let m = is_largest_common_divisor x.numerator x.denominator in
    let g = largest_common_divisor x.numerator x.denominator in
    let a = subst (λ (z : ℕ). k * g ∣ z) (div-mul_cancel g m.first) (mul-dvd-mul_right k s g) in
    let b = subst (λ (z : ℕ). k * g ∣ z) (div-mul_cancel g m.second) (mul-dvd-mul_right k t g) in
    let above = pos_of_dvd_of_pos m.second p in
    eq-one_of_dvd-one (dvd_of_mul-dvd-mul_right k above (subst (λ (z : ℕ). k * g ∣ z) (sym (one-mul g)) (m.every (k * g) a b)))

pub reduced_exactly : (x y : Fraction) → y ≡ reduced x → ReducedExactly x y
reduced_exactly x y same r p = (
  λ e. rw (e, same) (reduced_represents x p, reduced_is_lowest x p),
  λ h.
      let m = reduced_represents x p in
      one_pair r (reduced x) h.0.is_fraction m.is_fraction h.1 (reduced_is_lowest x p) (same_as r x (reduced x) p h.0.same m.same) ∙ sym same,
)

-- a fraction in lowest terms is what its reduced one is; equal fractions have the same lowest terms
pub is_reduced : (r x : Fraction) → IsFraction x → Represents r x → InLowestTerms r → r ≡ reduced x
is_reduced r x p same low = (reduced_exactly x (reduced x) refl r p).1 (same, low)

pub same_reduced : (x y : Fraction) → IsFraction x → IsFraction y → Same x y → reduced x ≡ reduced y
same_reduced x y p q e =
    let m = reduced_represents x p in
    is_reduced (reduced x) y q (record { is_fraction = m.is_fraction; same = same_as (reduced x) x y p m.same (sym e) }) (reduced_is_lowest x p)
