-- What the proofs of queries and changes of a value use: each way out of its entry, and its block as it is lent.
mod Exits
mod Lent
