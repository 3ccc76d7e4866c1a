pub mod Sums
pub mod Powers
pub mod Matrices
pub mod Division
pub mod Root
