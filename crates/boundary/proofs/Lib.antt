-- Laws that the functions' proofs cite.
pub mod Power
pub mod Graded
