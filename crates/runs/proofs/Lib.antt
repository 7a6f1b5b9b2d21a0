pub mod Lengths
pub mod Turns
pub mod Unique
