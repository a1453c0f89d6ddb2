pub mod Session
pub mod Serving
pub mod State
pub mod History
pub mod Theorems
