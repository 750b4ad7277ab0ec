-- What only functions inside this crate, and the proofs about them, cite. No public operation means any of it.
pub mod Columns
