-- What the answers of Audit's loop use: one turn over the values.
mod Rounds
