-- What the proofs of Load use: one round of the loop over values, and each way out.
mod Exits
mod Rounds
