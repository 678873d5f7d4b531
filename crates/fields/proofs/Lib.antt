pub mod Cases
pub mod Reading
pub mod Spelling
pub mod Splitting
