pub mod DefinitenessLaw
pub mod NearnessLaw
pub mod RadiusLaw
pub mod RoundingLaw
