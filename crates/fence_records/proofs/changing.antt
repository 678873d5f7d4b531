-- What the answers of a merge and a flip with their fences use: what making fences anew asks, and what is left.
pub mod Steps
