-- What the trial programs lay in buffers and read off them.
pub mod Buffers
pub mod Printed
