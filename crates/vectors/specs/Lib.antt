-- What is proved of the definitions of several crates together.
pub mod Theorems
