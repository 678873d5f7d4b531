-- What the proofs of Dump use: each way out.
mod Exits
