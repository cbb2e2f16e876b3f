-- The sheet: what it is, how it is read, and what the operations answer of it.
pub mod Sheet
pub mod Read
pub mod Given
