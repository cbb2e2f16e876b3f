-- The laws of drawing, and that its contract fixes its outcome.
pub mod Stretches
pub mod Plots
pub mod Tints
pub mod Draws
pub mod Unique
