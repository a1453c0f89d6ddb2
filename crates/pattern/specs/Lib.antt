pub mod Sets
pub mod Wildcard
pub mod Steps
pub mod Theorems
