-- The laws of one pass over a sheet.
pub mod Runs
pub mod Readings
pub mod Fields
pub mod Written
pub mod Annotated
pub mod Surveyed
pub mod Outlined
pub mod Unique
