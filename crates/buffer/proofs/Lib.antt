-- The law of storing, and that the contracts over lent buffers fix their outcomes.
pub mod Stores
pub mod Unique
