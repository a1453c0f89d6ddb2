pub mod Language
pub mod Grammar
pub mod Causes
pub mod Words
pub mod Scan
pub mod Regex
pub mod Promise
pub mod Theorems
