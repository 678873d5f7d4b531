-- What the answers of the calls that change nothing use: each way out.
pub mod Exits
