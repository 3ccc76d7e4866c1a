pub mod FromZero
pub mod Bounds
pub mod EnclosureLemmas
pub mod VerdictLemmas
