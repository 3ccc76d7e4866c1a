pub mod Recurrence
pub mod Breakdown
pub mod Fill
pub mod Factor
pub mod Fronts
pub mod Laws
pub mod FrontLaws
