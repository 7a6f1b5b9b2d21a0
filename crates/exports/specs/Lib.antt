pub mod Array
pub mod Handed
