-- What the contracts of this crate, and of those above it, cite, in the order in which it is read; the statements of its theorems come last.
-- docs/NOTATION.md explains the signs.
pub mod Signed
pub mod If97
pub mod Pressure
pub mod Table
pub mod Interpolation
pub mod Pair
pub mod Coefficient
pub mod Heat
pub mod Verification
pub mod Theorems
pub mod Inside
