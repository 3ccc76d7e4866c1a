pub mod Weights
pub mod Deformations
pub mod Cases
pub mod NodeLoads
pub mod Loads
pub mod Totals
pub mod Laws
pub mod Equilibria
