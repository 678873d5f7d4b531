-- What the answers of the calls that change rows use: each way out, and what is left.
pub mod Exits
pub mod Leaving
