pub mod Texts
pub mod Ranges
pub mod Items
pub mod Greedy
pub mod Local
pub mod Theorems
