-- The loop over two lists by spans, which the proofs of the module use.
pub mod Spans
pub mod Copied
