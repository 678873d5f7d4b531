-- What the proofs of Pack's functions use: the loop over groups, and each way out of the call.
mod Exits
mod Loop
