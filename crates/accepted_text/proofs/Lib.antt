mod AcceptLemmas
mod FaultLemmas
mod GraphLemmas
pub mod ExistLemmas
