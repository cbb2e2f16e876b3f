-- What the pixels of a frame depend on, and that bytes show.
pub mod Pins
pub mod Digits
pub mod Owners
pub mod Elements
pub mod Examples
pub mod Shows
pub mod Letters
pub mod LetterDots
