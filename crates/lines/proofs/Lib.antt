-- Laws and theorems about the archive's lines.
mod Counted
pub mod Decimals
pub mod Exactness
mod Faults
mod FieldLaws
mod Letters
pub mod LineBytes
pub mod LineLaws
mod Listing
mod NumberRows
pub mod NumbersLaws
pub mod Openings
pub mod Puts
mod Reached
pub mod ReaderRows
pub mod Reports
mod Runs
mod Shown
pub mod RoundTrips
pub mod Same
pub mod Shape
pub mod Splitting
mod Turns
pub mod WriterRows
