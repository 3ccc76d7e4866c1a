-- The lines and fields of a text, names and numbers.
pub mod Fields
pub mod Names
pub mod Numbers
