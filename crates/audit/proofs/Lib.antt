-- What the program reads and writes.
mod Whole
