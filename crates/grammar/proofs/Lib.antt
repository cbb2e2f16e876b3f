-- The laws of the sheet's grammar.
pub mod Numbers
pub mod Rules
pub mod Keys
pub mod Grammar
pub mod Parts
pub mod Length
pub mod Examples
