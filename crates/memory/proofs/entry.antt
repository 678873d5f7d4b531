-- What the proofs of entry use: each way out of its tests.
mod Exits
