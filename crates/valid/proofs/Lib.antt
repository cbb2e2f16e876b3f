-- The laws of bytes that are not valid, and that the contract fixes its outcome.
pub mod Valids
pub mod Unique
