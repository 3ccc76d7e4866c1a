pub mod Polynomials
pub mod Modes
pub mod ArcReadings
pub mod ArcWork
pub mod ArcLaw
pub mod EndLaws
pub mod EndBalance
pub mod NormalLemmas
pub mod CurveLaw
pub mod SomeWithin
pub mod MadeVectors
mod UnitLemmas
