-- Laws that the functions' proofs cite.
pub mod Memories
pub mod Axes
pub mod Tables
