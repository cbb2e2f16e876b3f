-- What the routines say on the way: a rectangle's two sides, and rows of it copied.
pub mod Patch
