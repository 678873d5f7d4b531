-- The walk a word at a time, which its proof and its laws use.
pub mod Steps
