-- Laws that this crate's proofs cite, and those of the crates above it.
pub mod Comparing
pub mod Conditions
pub mod Divisors
pub mod Ends
pub mod Floors
pub mod Fractions
pub mod Largest
pub mod LowestTerms
pub mod Numbered
pub mod Rows
pub mod Span
