pub mod Entries
pub mod Anchors
