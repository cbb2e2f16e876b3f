-- Reading a frame back: what its elements say, which pixels are stray, and what is answered.
pub mod Read
pub mod Stray
pub mod Back
pub mod Steps
