pub mod Combine
pub mod Inner
pub mod OneRow
