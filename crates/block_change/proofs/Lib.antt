pub mod Flipping
pub mod Merging
pub mod Turning
