pub mod Sums
pub mod Products
pub mod SumLaws
pub mod Powers
pub mod FormLaws
pub mod DivisionLemmas
pub mod RootLemmas
