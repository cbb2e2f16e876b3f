-- The laws of control writes, and that the contract fixes its outcome.
pub mod Addresses
pub mod Masks
pub mod Plays
pub mod Unique
