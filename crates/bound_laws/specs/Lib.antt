pub mod Definiteness
pub mod Nearness
