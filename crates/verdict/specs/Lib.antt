-- The verdict of a test bench on a heat meter or a part of it, and what is proved of it. Each file reads as a page, and builds on those above it. The
-- contracts of this crate, and of those above it, cite these definitions. docs/OPERATIONS.md tells the same rules in full sentences. Numbers such as
-- 53 are those of refusals (docs/OPERATIONS.md, "Refusals"), and names under `declared` are the structs and enums of src/.

-- The limit of the error at a test point; what refuses a test point, two values and a limit that is given; the verdict.
pub mod Limit
pub mod Rows
pub mod Verdict
-- The verdict in two operations, for a certificate: the limit, and the comparison with it.
pub mod Certificate
-- All theorems.
pub mod Theorems
-- What only the inside of this crate cites.
pub mod Inside
