-- What the contracts of this crate, and of those above it, cite, in the order in which it is read; the statements of its theorems come last.
-- docs/NOTATION.md explains the signs.
pub mod Sensor
pub mod Temperature
pub mod Refusal
pub mod Line
pub mod Tries
pub mod Theorems
