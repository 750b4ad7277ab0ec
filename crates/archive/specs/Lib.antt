-- The rules of a whole file, in an order in which they can be read: how bytes are read as a file, as a whole, then sample by sample and by its head;
-- what the audit answers; which bytes are an archive; which refusal stands at which line; what is printed; and what becomes of a file when a new one is
-- made of it. Theorems has the statements that are proved of them. Contracts of this crate and of those above it cite these files.
pub mod File
pub mod Places
pub mod Samples
pub mod Head
pub mod Audit
pub mod Archive
pub mod Refused
pub mod Report
pub mod Made
pub mod Theorems
