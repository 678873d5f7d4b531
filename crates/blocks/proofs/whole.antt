-- What the proof of the whole check of a block uses: each way out of it.
mod Exits
pub mod Verdict
