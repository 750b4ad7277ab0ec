-- Laws and theorems about the converters.
pub mod Splits
pub mod Editions
pub mod NewFiles
pub mod Conversions
pub mod Back
pub mod Staying
mod Promises
mod Refusing
mod Agreement
mod Passing
mod Buffers
