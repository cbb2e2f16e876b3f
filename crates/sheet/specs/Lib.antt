-- What the operations of the sheet promise.
pub mod Held
