pub mod TurnsLemmas
pub mod OutcomeLemmas
