-- Laws that the functions' proofs cite.
pub mod Adding
pub mod Faced
