-- The laws of the report, and that its contract fixes its outcome.
pub mod Decimals
pub mod Texts
pub mod Values
pub mod Cases
pub mod Longs
pub mod Fits
pub mod Enough
pub mod Unique
