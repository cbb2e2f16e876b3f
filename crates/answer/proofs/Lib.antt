-- The laws of answers, and that the contracts fix their outcomes.
pub mod Answers
pub mod Unique
