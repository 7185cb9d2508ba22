-- Laws that the functions' proofs cite.
pub mod Parts
pub mod Depends
