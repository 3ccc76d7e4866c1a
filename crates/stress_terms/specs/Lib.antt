pub mod Terms
pub mod Combined
pub mod Judgement
