-- The laws of plans on a canvas: sides cut at the edges, pixels counted, what is told, what is seen, and examples counted by hand.
pub mod Sides
pub mod Pixels
pub mod Refusals
pub mod Layers
pub mod Covers
pub mod Examples
