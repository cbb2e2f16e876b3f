-- The laws of laying, and that the contract fixes its outcome.
pub mod Signs
pub mod Firsts
pub mod Walks
pub mod Patches
pub mod Rectangles
pub mod Turns
pub mod Entries
pub mod Unique
