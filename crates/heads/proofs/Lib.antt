-- Laws that the functions' proofs cite, here and in `payloads` and `reads`.
pub mod Flat
pub mod Whole
pub mod Listed
