pub mod Stretches
pub mod Verdicts
pub mod Holding
pub mod Theorems
