pub mod DirectionLemmas
pub mod MemberLemmas
pub mod GapLemmas
pub mod StillLaw
