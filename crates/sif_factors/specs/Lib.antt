pub mod Parts
pub mod Index
pub mod Inverse
pub mod Characteristic
pub mod Rounded
pub mod Factors
pub mod Cycles
