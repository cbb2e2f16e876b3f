-- The laws of the words that promises are written in.
pub mod Choices
pub mod Orders
pub mod Fills
pub mod Tables
pub mod Firsts
pub mod Counts
pub mod Later
pub mod Parts
pub mod Copied
