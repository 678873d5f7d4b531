pub mod Every
pub mod Taken
pub mod Taking
pub mod Visits
