pub mod Apart
pub mod Combining
pub mod Covering
pub mod Exclusive
pub mod OneRow
pub mod Operations
pub mod TurningOver
