-- What a meter is, what it answers, and what is proved of it. Each file reads as a page, and builds on those above it. The contracts of this crate,
-- and of those above it, cite these definitions. docs/FORMAT.md and docs/OPERATIONS.md tell the same rules in full sentences. Numbers such as 36
-- are those of refusals (docs/OPERATIONS.md, "Refusals"), and names under `declared` are the structs and enums of src/.

-- What is given: the editions, the card, and the state with its totals.
pub mod Edition
pub mod Card
pub mod State
-- A sample with what follows from it, the two registers, and the step, by which a meter takes one sample.
pub mod Sample
pub mod Register
pub mod Step
-- The day profile: the step for a sample that comes with its quarter of an hour.
pub mod Profile
-- Whole lists of calls: the exact sum of a register, the calls, what is asked in them, and the calls of a day.
pub mod Sum
pub mod Calls
pub mod Run
pub mod Day
-- The step's answer by cases, and all theorems.
pub mod Answers
pub mod Theorems
-- What only the inside of this crate cites.
pub mod Inside
