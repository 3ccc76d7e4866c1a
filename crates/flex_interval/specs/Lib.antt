pub mod BestRoot
pub mod Ends
pub mod Fraction
pub mod Operations
pub mod Roots
pub mod Inclusion
