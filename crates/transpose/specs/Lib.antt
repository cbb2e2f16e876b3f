-- Images straight from the chips: where each byte lies, what the operations answer, and what the room holds while a bank is transposed.
pub mod Chip
pub mod Transposing
