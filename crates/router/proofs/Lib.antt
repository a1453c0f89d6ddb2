pub mod Agree
pub mod Made
pub mod Demand
