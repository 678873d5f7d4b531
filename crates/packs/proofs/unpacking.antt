-- What the proofs of Unpack's functions use: the rows of a word, the loop over words, and each way out of the call.
mod Exits
mod Loop
mod WordRows
