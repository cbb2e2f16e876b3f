-- The laws of the settings, and that the contracts fix their outcomes.
pub mod Masks
pub mod Borders
pub mod Widths
pub mod Names
pub mod Banks
pub mod Unique
