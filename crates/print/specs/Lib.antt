pub mod Cases
pub mod Frame
pub mod Text
pub mod Printed
