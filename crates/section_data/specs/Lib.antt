pub mod Tube
pub mod Values
