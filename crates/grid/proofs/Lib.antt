-- Laws that the functions' proofs, and the crates above, cite.
pub mod Tests
pub mod Judging
pub mod Filling
pub mod Settled
pub mod Canonical
