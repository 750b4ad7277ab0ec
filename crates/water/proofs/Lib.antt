-- Laws that this crate's proofs cite, and those of the crates above it.
pub mod Accepted
pub mod Bounds
pub mod Entries
pub mod ExactHeats
pub mod Interpolated
pub mod Passed
pub mod Properties
pub mod Verification
