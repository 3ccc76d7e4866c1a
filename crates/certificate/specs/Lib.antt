pub mod Bounds
pub mod Widening
pub mod RowSums
pub mod RowLists
pub mod RowResidual
pub mod Space
pub mod Checker
pub mod States
