pub mod Guarded
