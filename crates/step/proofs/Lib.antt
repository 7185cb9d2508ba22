-- Laws that the functions' proofs cite.
pub mod Judged
pub mod Whole
