-- The laws of the sheet's operations.
pub mod Unique
pub mod Annotations
