pub mod Graph
pub mod Order
pub mod Queue
pub mod State
pub mod Determined
pub mod Exist
