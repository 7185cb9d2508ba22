-- Laws that the functions' proofs cite, and what a run has to do with the calls of its steps.
pub mod Runs
pub mod Steps
