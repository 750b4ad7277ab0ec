-- What internal functions cite, and no public contract: it is no part of what reading and writing mean.
pub mod Parts
