-- The counter and the addresses that it gives.
pub mod Counter
pub mod Pairs
pub mod Steps
