pub mod Run
pub mod Undecided
pub mod Machine
pub mod Running
pub mod Theorems
