-- What a program has of demand 3.
pub mod Runs
