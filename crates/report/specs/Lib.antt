pub mod Report
pub mod Checks
pub mod Whole
pub mod Rounding
pub mod Rows
pub mod Words
pub mod Factors
