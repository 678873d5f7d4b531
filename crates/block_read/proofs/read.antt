-- What the proofs of reading use: each way out of the two reads, over the lent words.
pub mod Exits
