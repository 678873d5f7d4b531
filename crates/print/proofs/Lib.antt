pub mod Cases
pub mod Frames
pub mod Inputs
pub mod Lines
pub mod Room
pub mod Stores
