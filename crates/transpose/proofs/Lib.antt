-- The laws of the chips.
pub mod Places
pub mod Shapes
pub mod Transposings
pub mod Answers
pub mod Unique
pub mod Twice
