-- The laws of trial, and that its contracts fix their outcomes.
pub mod Buffers
pub mod Unique
