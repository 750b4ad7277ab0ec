-- Laws about texts that are put into a buffer.
pub mod Lent
pub mod Puts
pub mod Rows
