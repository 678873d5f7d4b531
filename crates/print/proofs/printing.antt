-- What the proofs of printing use: one round of the loop over values, and each way out.
mod Exits
mod Rounds
