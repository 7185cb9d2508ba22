-- Laws that the functions' proofs, and the crates above, cite.
pub mod Opened
pub mod Layered
