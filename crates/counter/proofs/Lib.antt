-- The laws of the counter, and that the contracts fix their outcomes.
pub mod Wraps
pub mod Tables
pub mod Walks
pub mod Runs
pub mod Ends
pub mod Lines
pub mod Rows
pub mod Shifts
pub mod Rules
pub mod Unique
