-- Laws that this crate's proofs cite, and those of the crates above it.
pub mod Answer
pub mod Ends
pub mod Growth
pub mod SensorKinds
pub mod Line
pub mod Near
pub mod Resistances
pub mod Ratios
pub mod Start
