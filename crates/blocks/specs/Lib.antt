pub mod Audit
pub mod Block
pub mod Inner
pub mod Sizes
pub mod Whole
