-- What both at once answers and leaves.
pub mod Show
