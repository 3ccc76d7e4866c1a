pub mod Directions
pub mod Restraints
pub mod Enclosures
pub mod States
