-- The laws of notes that stand on the cover, examples of them, and that the contracts fix their outcomes.
pub mod Examples
pub mod Lines
pub mod Founds
pub mod Seeks
pub mod Holders
pub mod Unique
