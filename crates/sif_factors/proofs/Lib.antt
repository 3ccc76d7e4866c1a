pub mod PartLemmas
pub mod IndexLemmas
pub mod RangeLemmas
mod CycleLemmas
