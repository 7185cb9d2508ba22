-- Laws that the functions' proofs, and the crates above, cite.
pub mod Blocks
pub mod Sweeps
pub mod Pointwise
pub mod Written
pub mod Extensional
