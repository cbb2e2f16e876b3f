-- What is read off the settings.
pub mod Fields
pub mod Modes
pub mod Banks
pub mod Refusals
