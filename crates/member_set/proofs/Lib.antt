pub mod Fractions
pub mod Rows
pub mod Touching
pub mod Turns
pub mod RestLaw
pub mod StretchLaw
pub mod InclusionLaws
pub mod StateLaws
