-- What the functions that pass over a sheet answer.
pub mod Steps
