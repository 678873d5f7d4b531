pub mod Room
pub mod Told
