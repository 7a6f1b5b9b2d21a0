pub mod Shown
pub mod Taking
pub mod Bounded
