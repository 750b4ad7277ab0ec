-- Water by IAPWS-IF97, the Industrial Formulation 1997 (IAPWS release R7-97): region 1, which is liquid water. Its specific enthalpy
-- and its specific volume follow from one function γ of pressure and temperature, a sum of 34 terms, by derivatives. Here they are exact fractions,
-- at any pressure and temperature. The rows and both derivatives are also printed in OIML R 75-1, Annex A: Table 1, (A.5) and (A.3).
-- docs/FORMAT.md, "Water", has rows and formulas too.
use Rattle.std.specs.Prelude.{ℕ, ◌^◌, List, [], ◌∷◌, ℤ, pos, neg_ℤ}
use Rattle.std.proofs.Math.IntN.{pred_ℤ}
use Rattle.water.specs.Signed.{SignedFraction, ◌per◌, integer, decimal_number, negated, ◌⊕◌, ◌⊖◌, ◌⊗◌, ◌⊘◌, power}

-- A row of the release's table of region 1: the exponents I and J and the coefficient n, which docs/FORMAT.md calls a.
pub record Term : Type 0 where
  pub I : ℤ
  pub J : ℤ
  pub n : SignedFraction

-- The negative of a whole number.
abbrev pub neg : ℕ → ℤ
neg k = neg_ℤ (pos k)

-- A row as it is printed: I; J; n by its sign and the fourteen digits after "0.", and by its power of ten.
abbrev pub term : ℕ → ℤ → ℤ → ℤ → Term
term i j digits e = record { I = pos i; J = j; n = (digits per 10 ^ 14) ⊗ power (decimal_number 10 0) e }

-- The 34 rows, in the release's order. No computed fact reaches their last digits, so `tools/compare-if97-rows` compares them with a printed table.
abbrev pub terms : List Term
terms =
    term 0 (neg 2) (pos 146_329_712_131_67) (pos 0)
    ∷ term 0 (neg 1) (neg 845_481_871_691_14) (pos 0)
    ∷ term 0 (pos 0) (neg 375_636_036_720_40) (pos 1)
    ∷ term 0 (pos 1) (pos 338_551_691_683_85) (pos 1)
    ∷ term 0 (pos 2) (neg 957_919_633_878_72) (pos 0)
    ∷ term 0 (pos 3) (pos 157_720_385_132_28) (pos 0)
    ∷ term 0 (pos 4) (neg 166_164_171_995_01) (neg 1)
    ∷ term 0 (pos 5) (pos 812_146_299_835_68) (neg 3)
    ∷ term 1 (neg 9) (pos 283_190_801_238_04) (neg 3)
    ∷ term 1 (neg 7) (neg 607_063_015_658_74) (neg 3)
    ∷ term 1 (neg 1) (neg 189_900_682_184_19) (neg 1)
    ∷ term 1 (pos 0) (neg 325_297_487_705_05) (neg 1)
    ∷ term 1 (pos 1) (neg 218_417_171_754_14) (neg 1)
    ∷ term 1 (pos 3) (neg 528_383_579_699_30) (neg 4)
    ∷ term 2 (neg 3) (neg 471_843_210_732_67) (neg 3)
    ∷ term 2 (pos 0) (neg 300_017_807_930_26) (neg 3)
    ∷ term 2 (pos 1) (pos 476_613_939_069_87) (neg 4)
    ∷ term 2 (pos 3) (neg 441_418_453_308_46) (neg 5)
    ∷ term 2 (pos 17) (neg 726_949_962_975_94) (neg 15)
    ∷ term 3 (neg 4) (neg 316_796_448_450_54) (neg 4)
    ∷ term 3 (pos 0) (neg 282_707_979_853_12) (neg 5)
    ∷ term 3 (pos 6) (neg 852_051_281_201_03) (neg 9)
    ∷ term 4 (neg 5) (neg 224_252_819_080_00) (neg 5)
    ∷ term 4 (neg 2) (neg 651_712_228_956_01) (neg 6)
    ∷ term 4 (pos 10) (neg 143_417_299_379_24) (neg 12)
    ∷ term 5 (neg 8) (neg 405_169_968_601_17) (neg 6)
    ∷ term 8 (neg 11) (neg 127_343_017_416_41) (neg 8)
    ∷ term 8 (neg 6) (neg 174_248_712_306_34) (neg 9)
    ∷ term 21 (neg 29) (neg 687_621_312_955_31) (neg 18)
    ∷ term 23 (neg 31) (pos 144_783_078_285_21) (neg 19)
    ∷ term 29 (neg 38) (pos 263_357_816_627_95) (neg 22)
    ∷ term 30 (neg 39) (neg 119_476_226_400_71) (neg 22)
    ∷ term 31 (neg 40) (pos 182_280_945_814_04) (neg 23)
    ∷ term 32 (neg 41) (neg 935_370_872_924_58) (neg 25)
    ∷ []

-- Σ: a value for each row, added up over rows.
abbrev pub sum_over : (Term → SignedFraction) → List Term → SignedFraction
sum_over f [] = integer (pos 0)
sum_over f (r ∷ rs) = f r ⊕ sum_over f rs

-- The dimensionless Gibbs free energy: γ is Σ n (7.1 − π)^I (τ − 1.222)^J. π stands for the pressure and τ for the
-- temperature, as below.
abbrev pub γ : SignedFraction → SignedFraction → SignedFraction
γ π τ = sum_over (λ r. r.n ⊗ power (decimal_number 71 1 ⊖ π) r.I ⊗ power (τ ⊖ decimal_number 1222 3) r.J) terms

-- Its derivative by τ, (A.5) of OIML R 75-1: Σ n (7.1 − π)^I J (τ − 1.222)^(J−1).
abbrev pub γτ : SignedFraction → SignedFraction → SignedFraction
γτ π τ =
    sum_over (λ r. r.n ⊗ power (decimal_number 71 1 ⊖ π) r.I ⊗ integer r.J ⊗ power (τ ⊖ decimal_number 1222 3) (pred_ℤ r.J)) terms

-- Its derivative by π, (A.3) of OIML R 75-1: Σ −n I (7.1 − π)^(I−1) (τ − 1.222)^J.
abbrev pub γπ : SignedFraction → SignedFraction → SignedFraction
γπ π τ =
    sum_over (λ r. negated r.n ⊗ integer r.I ⊗ power (decimal_number 71 1 ⊖ π) (pred_ℤ r.I) ⊗ power (τ ⊖ decimal_number 1222 3) r.J) terms

-- The specific gas constant of water, R, in J/(kg K): 461.526.
abbrev pub R : SignedFraction
R = decimal_number 461526 3

-- π: the pressure over p*, which is 16.53 MPa. The pressure is in MPa.
abbrev pub reduced_pressure : SignedFraction → SignedFraction
reduced_pressure p = p ⊘ decimal_number 1653 2

-- τ: 1386 K over the temperature, which is in K.
abbrev pub reduced_temperature : SignedFraction → SignedFraction
reduced_temperature T = decimal_number 1386 0 ⊘ T

-- The specific enthalpy in J/kg, R × 1386 × γτ, at a pressure in MPa and a temperature in K.
unfoldable pub enthalpy : SignedFraction → SignedFraction → SignedFraction
enthalpy p T = R ⊗ decimal_number 1386 0 ⊗ γτ (reduced_pressure p) (reduced_temperature T)

-- The specific volume in m³/kg, R × T × γπ / p*, at the same two. Here p* is in Pa, 16530000.
unfoldable pub volume : SignedFraction → SignedFraction → SignedFraction
volume p T = R ⊗ T ⊗ γπ (reduced_pressure p) (reduced_temperature T) ⊘ decimal_number 16530000 0
