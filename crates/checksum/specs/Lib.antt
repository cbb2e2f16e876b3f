-- The two checksums of a PNG file, and the steps that they are computed by.
pub mod Crc
pub mod Adler
pub mod Sliced
pub mod Sums
