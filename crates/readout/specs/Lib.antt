-- What a readout is, in an order in which it can be read: packed decimal, the two records, how they are written and how they are read. Theorems has the
-- statements that are proved of them.
pub mod Packed
pub mod Records
pub mod Writing
pub mod Reading
pub mod Theorems
