pub mod OneOutcome
mod Telling
