pub mod FieldLemmas
mod LineLemmas
mod NameLemmas
pub mod NumberLemmas
