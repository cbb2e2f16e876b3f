-- The laws of reading back, and the round trip both ways.
pub mod Values
pub mod Shapes
pub mod RoundTrip
pub mod Backs
pub mod Trips
pub mod Unique
