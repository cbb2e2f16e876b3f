-- Texts: which may stand, how they are put together, and how they are read.
pub mod Code
pub mod Combine
pub mod Hex
