-- Laws that the functions' proofs cite.
pub mod Placing
pub mod Building
