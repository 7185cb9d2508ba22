-- Laws that the functions' proofs, and the crates above, cite.
pub mod Turns
pub mod Entry
pub mod Head
pub mod Counted
pub mod Back
pub mod Decoded
pub mod Again
pub mod Clock
