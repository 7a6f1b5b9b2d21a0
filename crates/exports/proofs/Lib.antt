pub mod Back
mod Copied
mod Leaving
mod OneStep
mod Tested
pub mod Unique
