pub mod Counting
pub mod Reading
pub mod Opening
pub mod Writing
pub mod Staff
pub mod Turns
pub mod Steps
pub mod Theorems
