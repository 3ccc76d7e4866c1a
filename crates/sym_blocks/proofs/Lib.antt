pub mod StorageLemmas
pub mod AddLemmas
pub mod NewLemmas
