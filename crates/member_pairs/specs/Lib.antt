pub mod Axes
pub mod Span
pub mod Tubes
pub mod Vectors
pub mod Lengths
pub mod Limits
pub mod Pairs
pub mod Members
