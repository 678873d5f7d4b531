pub mod Onward
pub mod Walks
