pub mod Laws
pub mod Sames
pub mod Leads
pub mod Folds
pub mod Places
pub mod Borders
pub mod Theorems
