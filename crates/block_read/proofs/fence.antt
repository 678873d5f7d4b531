-- The way to a word a step at a time, which the search and the laws of fences use.
pub mod Steps
