pub mod Ints
pub mod Weights
pub mod Theorems
pub mod Compare
pub mod Beyond
