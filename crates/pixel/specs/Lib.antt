-- The colours that a strip's bytes show.
pub mod Dots
pub mod Graphics
pub mod Text
pub mod Picture
