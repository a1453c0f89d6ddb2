pub mod Places
pub mod Starts
pub mod Parses
pub mod Stores
pub mod Answers
pub mod Theorems
