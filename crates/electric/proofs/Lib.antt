-- Laws that the functions' proofs cite.
pub mod Slopes
pub mod Edges
pub mod Whole
pub mod Component
pub mod Rowwise
pub mod Polarized
pub mod Steps
pub mod Shorts
