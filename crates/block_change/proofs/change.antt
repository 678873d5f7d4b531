-- What the proofs of changes use: when a merge is due, and what the code of a turn makes.
mod Due
mod Turns
