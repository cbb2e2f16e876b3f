-- The laws of the checksums, and that their contracts fix one outcome.
pub mod Xors
pub mod Chunks
pub mod Crcs
pub mod Entries
pub mod Words
pub mod Adlers
pub mod Unique
pub mod Examples
