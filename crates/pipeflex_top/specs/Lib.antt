pub mod Analysis
pub mod Enclosure
pub mod MemberTable
pub mod Refusal
pub mod Run
pub mod Summary
pub mod ToldChecks
pub mod Told
