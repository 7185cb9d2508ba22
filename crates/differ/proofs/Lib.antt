-- Laws of differ.
pub mod Counting
