-- What a word is read as, which the proofs of several modules use.
pub mod Reading
