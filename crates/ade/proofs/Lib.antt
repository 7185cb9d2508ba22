-- Laws that the functions' proofs cite.
pub mod Columns
pub mod Tables
pub mod Advancing
pub mod Depends
