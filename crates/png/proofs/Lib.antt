-- The laws of the PNG file.
pub mod Runs
pub mod Pixels
pub mod Places
