-- Laws that this crate's proofs cite, and those of the crates above it.
pub mod Certificate
pub mod ClassFigures
pub mod Classes
pub mod Comparisons
pub mod Edges
pub mod Mirrored
pub mod Passing
pub mod Pieces
pub mod Positive
pub mod Ranges
pub mod Room
pub mod Verdicts
pub mod WholeCap
pub mod Widened
