pub mod Choice
pub mod Fold
pub mod Search
pub mod Until
pub mod Places
pub mod OneAnswer
