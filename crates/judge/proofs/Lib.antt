-- Laws that the proofs of the functions cite, and those of `saves`.
pub mod Judged
