-- Laws that the proofs of the functions cite.
mod Numerals
mod Written
mod Words
mod Judged
mod Study
-- Document 01's lines, worked.
pub mod Examples
