pub mod Fronts
pub mod Tree
pub mod Parts
pub mod Laws
