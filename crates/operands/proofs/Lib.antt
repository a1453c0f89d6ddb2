pub mod Literals
pub mod Marks
pub mod Gathers
pub mod Passes
pub mod Parts
pub mod Leaves
pub mod Judged
pub mod Theorems
