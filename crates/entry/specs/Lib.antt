pub mod Numbers
pub mod Copy
pub mod Kinds
pub mod Refusals
pub mod Step
pub mod Packing
pub mod Entry
pub mod Answer
