-- What the proofs of the pass over a column use: rows that hold one byte, the rows of a group, the groups of one place, and all of them.
mod Alike
mod Gathering
mod Placing
mod Spreading
