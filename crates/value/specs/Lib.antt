pub mod Value
pub mod Held
pub mod Theorems
pub mod Order
pub mod Laws
