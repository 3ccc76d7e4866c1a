-- The grammar of the model text and its canonical form.
pub mod Canonical
pub mod Fields
pub mod Grammar
pub mod Lines
pub mod Records
pub mod RoundTrip
pub mod Rows
pub mod Words
