pub mod WayLemmas
pub mod Shapes
pub mod TubeLemmas
