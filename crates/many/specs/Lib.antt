pub mod Many
pub mod Held
pub mod Theorems
