pub mod Answering
pub mod Fits
mod Values
pub mod Unique
