pub mod Integers
pub mod Reals
pub mod Table
pub mod Tens
pub mod Literals
pub mod Theorems
