-- Notes that stand on the cover: what is told of a key in two sheets, and where its value lies.
pub mod Lookup
pub mod Steps
