-- The laws of both at once, and that the contract fixes its outcome.
pub mod Shows
pub mod Unique
