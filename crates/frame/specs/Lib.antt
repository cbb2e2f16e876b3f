-- What drawing answers and leaves, and the steps of its work.
pub mod Draw
pub mod Steps
