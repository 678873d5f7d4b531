-- What the answers of the functions that read rows use: one round of each loop.
pub mod Rounds
