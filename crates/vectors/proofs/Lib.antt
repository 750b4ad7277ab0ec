-- Facts about the definitions of several crates.
pub mod Edges
