pub mod Rounding
pub mod Theorems
