pub mod Bytes
pub mod Calls
pub mod Flow
pub mod Front
pub mod Lend
pub mod Local
