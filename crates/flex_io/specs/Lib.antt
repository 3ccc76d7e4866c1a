pub mod Counted
pub mod Delivery
pub mod Fault
pub mod Source
pub mod Sink
pub mod Status
pub mod Store
