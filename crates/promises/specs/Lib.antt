-- The words that every promise is written in.
pub mod Choose
pub mod Told
pub mod Order
pub mod First
pub mod Count
pub mod Written
pub mod Fixes
pub mod Part
pub mod Figure
