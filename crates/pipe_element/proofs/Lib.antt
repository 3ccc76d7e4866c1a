pub mod Readings
pub mod Products
pub mod CrossProducts
pub mod MemberSums
pub mod Balances
pub mod BeamLaw
pub mod Enclosures
pub mod Limits
