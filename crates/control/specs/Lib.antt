-- Control writes and what they do.
pub mod Control
