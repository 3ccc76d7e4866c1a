pub mod Stiffness
pub mod Filling
pub mod Inclusion
