pub mod Calls
pub mod Cases
pub mod Corollaries
pub mod History
pub mod Plain
pub mod Promises
