pub mod Entry
pub mod Fences
pub mod Inner
pub mod Memory
pub mod Outcomes
pub mod Reading
