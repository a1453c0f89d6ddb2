pub mod Mend
pub mod Fate
pub mod Order
pub mod Theorems
