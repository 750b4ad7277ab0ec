-- Figures of water that others have published, which the definition of IAPWS-IF97 has to give to the last digit. Nothing here comes from our own
-- tables.
use Rattle.std.specs.Prelude.{Bool, true, ◌&&◌, List, [], ◌∷◌, ℕ, ◌^◌, T, eqb}
use Rattle.water.specs.Signed.{SignedFraction, decimal_number, ◌⊖◌, ◌⊗◌, ◌⊘◌, nearest}
use Rattle.water.specs.If97.{γ, γτ, R, reduced_pressure, reduced_temperature, enthalpy, volume}
use Rattle.water.specs.Table.{kelvins}

-- A figure: the exact value in its own unit, and the digits as they are published, so many of them after the point.
record Figure : Type 0 where
  value : SignedFraction
  digits : ℕ
  places : ℕ

abbrev figure : SignedFraction → ℕ → ℕ → Figure
figure x n k = record { value = x; digits = n; places = k }

-- The values, rounded to as many digits, are the figures.
abbrev agree : List Figure → Bool
agree [] = true
agree (f ∷ fs) = eqb (nearest (f.value ⊗ decimal_number (10 ^ f.places) 0)) f.digits && agree fs

-- A pressure in MPa and a temperature in K, each a whole number.
abbrev MPa : ℕ → SignedFraction
MPa n = decimal_number n 0

abbrev K : ℕ → SignedFraction
K n = decimal_number n 0

-- A value in a unit that is a thousand times as large.
abbrev kilo : SignedFraction → SignedFraction
kilo x = x ⊘ decimal_number 1000 0

-- The specific entropy, R × (τ γτ − γ): the only value here that rests on row 3, which has no part in either derivative.
abbrev entropy : SignedFraction → SignedFraction → SignedFraction
entropy p T =
    R ⊗ (reduced_temperature T ⊗ γτ (reduced_pressure p) (reduced_temperature T) ⊖ γ (reduced_pressure p) (reduced_temperature T))

-- IAPWS R7-97, Table 5: v in m³/kg, h in kJ/kg and the specific entropy in kJ/(kg K), at 300 K and 3 MPa, 300 K and 80 MPa, 500 K and 3 MPa.
abbrev release : List Figure
release =
    figure (volume (MPa 3) (K 300)) 100215168 11
    ∷ figure (volume (MPa 80) (K 300)) 971180894 12
    ∷ figure (volume (MPa 3) (K 500)) 120241800 11
    ∷ figure (kilo (enthalpy (MPa 3) (K 300))) 115331273 6
    ∷ figure (kilo (enthalpy (MPa 80) (K 300))) 184142828 6
    ∷ figure (kilo (enthalpy (MPa 3) (K 500))) 975542239 6
    ∷ figure (kilo (entropy (MPa 3) (K 300))) 392294792 9
    ∷ figure (kilo (entropy (MPa 80) (K 300))) 368563852 9
    ∷ figure (kilo (entropy (MPa 3) (K 500))) 258041912 8
    ∷ []

-- v and h at 16 bar and a whole degree.
abbrev v : ℕ → SignedFraction
v degrees = volume (decimal_number 16 1) (kelvins (decimal_number degrees 0))

abbrev h : ℕ → SignedFraction
h degrees = enthalpy (decimal_number 16 1) (kelvins (decimal_number degrees 0))

-- The heat coefficient by (A.1) of OIML R 75-1, in MJ/(m³ K), between 70 °C and 30 °C: k = (hf − hr) / (v × (Θf − Θr)), where f is the supply and r
-- the return.
abbrev k : SignedFraction → SignedFraction
k volume = (h 70 ⊖ h 30) ⊘ (volume ⊗ decimal_number 40 0) ⊘ decimal_number (10 ^ 6) 0

-- OIML R 75-1, Annex A, its samples of values at 16 bar: v in m³/kg, h in kJ/kg, and the heat coefficient with the flow sensor in the supply and in
-- the return.
abbrev annex_a : List Figure
annex_a =
    figure (v 70) 102204 8
    ∷ figure (v 30) 100370 8
    ∷ figure (kilo (h 70)) 294301 3
    ∷ figure (kilo (h 30)) 127200 3
    ∷ figure (k (v 70)) 40874 4
    ∷ figure (k (v 30)) 41621 4
    ∷ []

-- The definition gives all of these figures.
abbrev pub Verified : Type 0
Verified = T (agree release && agree annex_a)
