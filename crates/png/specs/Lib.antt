-- What the PNG file of a frame with its border is.
pub mod Run
pub mod File
