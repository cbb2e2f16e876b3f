-- The laws of texts: each reading is right.
pub mod Lists
pub mod Tests
pub mod Sequences
pub mod Renamed
pub mod Steps
pub mod Words
pub mod Runs
pub mod Options
pub mod Repeats
pub mod Exclusions
pub mod Hexes
pub mod Back
pub mod Scans
pub mod Rests
pub mod Passed
pub mod Lengths
