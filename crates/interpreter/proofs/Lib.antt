pub mod Stack
pub mod Safe
pub mod Firsts
pub mod Visits
pub mod Places
pub mod Theorems
pub mod Answers
