-- What the proofs of the check use: one word, marks of runs, the pass over words, its exits, the count of ones; and what the answer says of a list, which Unpack uses too.
mod Excess
mod Marks
mod Pass
mod Ends
mod Counting
pub mod Verdict
