-- What the answers of Dump's loops use: one round of each.
pub mod Rounds
