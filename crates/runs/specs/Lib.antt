pub mod Halting
pub mod Lists
pub mod Within
