pub mod Square
pub mod Own
pub mod Child
pub mod Space
pub mod Value
pub mod Tree
