-- Generated models, and their texts.
pub mod GeneratedModel
pub mod Text
