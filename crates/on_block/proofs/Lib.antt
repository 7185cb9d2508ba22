-- Laws that the functions' proofs cite.
pub mod Passing
pub mod Vacuum
