-- What the proofs of the writers of a list use: a length stored and a room copied, in the lent words and in the block.
mod Stores
