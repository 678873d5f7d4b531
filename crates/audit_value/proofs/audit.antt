-- What the proofs of Audit's part for one value use: each way out of the check of its lists, and its rows as loose groups.
mod Exits
mod Turned
