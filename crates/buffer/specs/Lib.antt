-- What it means that a text is put into a lent buffer. Putting has the definitions and Theorems the statements that are proved of them; Front is for
-- functions inside the crates above, which put texts at the front of a part.
pub mod Putting
pub mod Front
pub mod Theorems
