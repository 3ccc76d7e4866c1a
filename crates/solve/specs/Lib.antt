pub mod Substitution
pub mod Refinement
pub mod Numerators
pub mod Turns
