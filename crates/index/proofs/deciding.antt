-- What the answers of the functions that decide use: each way out.
pub mod Exits
