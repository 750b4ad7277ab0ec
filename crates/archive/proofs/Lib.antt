-- Laws and theorems about the audit, and about what is made of a file.
pub mod OneLine
pub mod Bodies
pub mod Files
pub mod Stops
pub mod Acceptance
pub mod Readings
pub mod Refusing
pub mod Numbers
pub mod Going
pub mod Heads
pub mod Starting
pub mod Printed
pub mod Outputs
