pub mod Compile
pub mod Depth
pub mod Expand
pub mod Translation
pub mod Theorems
pub mod Emit
