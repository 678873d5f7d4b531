-- What the proofs of V xor U use: the call that combines both lists, and each way out of the answer to a query.
mod Combines
mod Exits
