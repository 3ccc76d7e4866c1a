pub mod Columns
pub mod ColumnsTaken
pub mod Entries
pub mod Solving
pub mod Scaling
pub mod Moving
pub mod OnBoth
