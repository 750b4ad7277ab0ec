-- Exact fractions with a sign. IAPWS-IF97 is worked out in them, since its coefficients and exponents have either sign, and so are the published
-- figures that check it; nothing else is. A fraction is an integer, its numerator, over a whole number. None is reduced, and nothing is rounded
-- but by `nearest`, once, at the end. The fractions of heats, sums and limits have no sign: specs/Fractions.antt of quantity.
use Rattle.std.specs.Prelude.{ℕ, zero, suc, ◌+◌, ◌*◌, ◌/◌, ◌^◌, ℤ, pos, negsuc, neg_ℤ, ◌+ℤ◌, ◌*ℤ◌}

infix 5 ◌per◌
infixl 6 ◌⊕◌
infixl 6 ◌⊖◌
infixl 7 ◌⊗◌
infixl 7 ◌⊘◌
infixl 8 ◌^ℤ◌
-- n per d is n/d.
pub data SignedFraction : Type 0 where
  ◌per◌ : ℤ → ℕ → SignedFraction

-- An integer as a fraction: over 1.
abbrev pub integer : ℤ → SignedFraction
integer n = n per 1

-- A decimal number: its digits, and how many of them stand after the point.
abbrev pub decimal_number : ℕ → ℕ → SignedFraction
decimal_number digits places = pos digits per 10 ^ places

-- The same with the other sign.
abbrev pub negated : SignedFraction → SignedFraction
negated (n per d) = neg_ℤ n per d

-- 1 over a fraction: the two numbers exchanged, while the sign stays with the upper one. 0 has none.
abbrev pub reciprocal : SignedFraction → SignedFraction
reciprocal (pos n per d) = pos d per n
reciprocal (negsuc n per d) = neg_ℤ (pos d) per suc n

-- The sum.
abbrev pub ◌⊕◌ : SignedFraction → SignedFraction → SignedFraction
(m per d) ⊕ (n per e) = m *ℤ pos e +ℤ n *ℤ pos d per d * e

-- The difference.
abbrev pub ◌⊖◌ : SignedFraction → SignedFraction → SignedFraction
x ⊖ y = x ⊕ negated y

-- The product.
abbrev pub ◌⊗◌ : SignedFraction → SignedFraction → SignedFraction
(m per d) ⊗ (n per e) = m *ℤ n per d * e

-- The quotient. By 0 it has no value.
abbrev pub ◌⊘◌ : SignedFraction → SignedFraction → SignedFraction
x ⊘ y = x ⊗ reciprocal y

-- An integer to the power of a whole number ..
abbrev pub ◌^ℤ◌ : ℤ → ℕ → ℤ
pos n ^ℤ k = pos (n ^ k)
negsuc n ^ℤ zero = pos 1
negsuc n ^ℤ suc k = negsuc n *ℤ (negsuc n ^ℤ k)

-- .. and a fraction to that of an integer: a negative exponent takes the reciprocal.
abbrev pub power : SignedFraction → ℤ → SignedFraction
power (n per d) (pos k) = n ^ℤ k per d ^ k
power (n per d) (negsuc k) = reciprocal (n ^ℤ suc k per d ^ suc k)

-- Rounded to the nearest whole number, a half upwards: x + 1/2 rounded down. Entries of a table have no sign, so that a negative fraction, which
-- none of them is, gets 0.
abbrev pub nearest : SignedFraction → ℕ
nearest (pos n per d) = (2 * n + d) / (2 * d)
nearest (negsuc n per d) = 0
