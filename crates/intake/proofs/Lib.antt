-- The laws of a sheet's settings, and that their contract fixes its outcome.
pub mod Judges
pub mod Unique
