pub mod Parts
pub mod FieldValues
pub mod Theorems
pub mod Order
pub mod Laws
