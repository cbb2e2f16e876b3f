-- The laws of fetching, and that the contract fixes its outcome.
pub mod Places
pub mod Columns
pub mod Walks
pub mod Touched
pub mod Banks
pub mod Fetches
pub mod Windows
pub mod Unique
