pub mod Language
pub mod Marks
pub mod Pass
pub mod Table
pub mod Decide
pub mod Word
pub mod Theorems
