pub mod Table
pub mod Check
pub mod Groups
pub mod Ways
pub mod Number
pub mod Parts
pub mod Theorems
