-- The rules of one line, in an order in which they can be read: its bytes, its numbers, the lines, how one is read and how it is written, the lines
-- of columns and lines read as numbers alone, what reading and writing have to do with each other, and the line that the audit program prints.
-- Theorems has the statements that are proved of them. Contracts of this crate and of those above it cite these files; Inside is for the functions
-- inside alone.
pub mod Bytes
pub mod Number
pub mod Line
pub mod Reading
pub mod Writing
pub mod Columns
pub mod RoundTrip
pub mod Report
pub mod Theorems
pub mod Inside
