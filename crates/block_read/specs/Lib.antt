pub mod Read
pub mod Fences
