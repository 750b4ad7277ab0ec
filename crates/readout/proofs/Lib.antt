-- Laws and theorems about readouts.
mod PackedDecimal
mod PackedLoops
mod Bytes
mod Written
