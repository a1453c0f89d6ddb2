pub mod Gather
pub mod Patterns
pub mod Theorems
