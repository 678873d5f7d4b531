pub mod Blocks
pub mod EmptyUpdates
pub mod Opened
pub mod Parts
pub mod Rooms
pub mod SizeLaws
pub mod WholeLists
pub mod ZeroList
