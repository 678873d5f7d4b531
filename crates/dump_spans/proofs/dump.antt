-- What the proofs of a dump's steps use: how many fences there are to visit and the groups of each, and the bytes that are given.
mod Giving
mod Visits
