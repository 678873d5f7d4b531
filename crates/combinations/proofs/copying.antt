-- The laws of words that are passed and copied, which the proofs of the module use.
pub mod Passing
