pub mod Marked
pub mod Packed
pub mod Form
pub mod Answer
