-- What the proofs of marking use: rows copied, the rows of one group, rows one by one, a whole group, and the spans of groups.
mod Copied
mod HighestBit
mod Marking
mod Passing
pub mod Spans
mod Uniform
mod Whole
