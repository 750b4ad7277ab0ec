-- What the contracts of this crate, and of those above it, cite, in the order in which it is read; the statements of its theorems come last.
-- docs/NOTATION.md explains the signs.
pub mod Units
pub mod Refusals
pub mod Range
pub mod Fractions
pub mod Largest
pub mod Divisors
pub mod Theorems
