pub mod RoundedTable
pub mod ArcLemmas
pub mod SineLaw
