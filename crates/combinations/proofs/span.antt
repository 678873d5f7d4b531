-- The laws of a span, which the proofs of the module use.
pub mod Opening
