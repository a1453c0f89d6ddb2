pub mod More
pub mod Examples
