-- What the contracts of this crate cite; the statements of its theorems; and, apart, what only its inside cites.
pub mod Runs
pub mod Conversion
pub mod Theorems
pub mod Inside
