pub mod Matrix
pub mod Storage
