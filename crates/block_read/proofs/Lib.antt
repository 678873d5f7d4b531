pub mod FenceLaws
pub mod Reaching
pub mod Readings
