-- Laws that the proofs of a program's functions cite.
pub mod Going
