pub mod Trials
pub mod Turns
pub mod Outcomes
pub mod Determined
