pub mod Octets
pub mod Borders
pub mod Theorems
