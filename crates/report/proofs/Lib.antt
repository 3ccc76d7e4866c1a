pub mod LineLemmas
pub mod RoundingLaw
pub mod RowLemmas
pub mod FactorLemmas
pub mod CheckLemmas
