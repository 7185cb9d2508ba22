-- Laws that the functions' proofs cite.
pub mod Slopes
pub mod Whole
pub mod Component
pub mod Rowwise
pub mod Shorts
pub mod Steps
