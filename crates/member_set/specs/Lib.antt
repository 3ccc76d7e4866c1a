pub mod Members
pub mod Realisation
pub mod Interval
pub mod Inclusion
pub mod States
