pub mod Marks
pub mod Decimals
pub mod Quoted
pub mod Names
pub mod Records
pub mod Writing
