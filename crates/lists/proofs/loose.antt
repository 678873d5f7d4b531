-- What the proofs over loose groups use: the loops, and a list's groups one word after the other.
mod Loops
mod Turning
mod Word
