pub mod Repeat
