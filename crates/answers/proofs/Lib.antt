pub mod Accepted
pub mod Given
pub mod OneToOne
