-- What the proofs of Audit use: each way out.
mod Exits
