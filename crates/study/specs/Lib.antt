-- What the project as a whole states: the starred studies, and demand 3 for the C functions.
pub mod Starred
pub mod History
pub mod World
pub mod Calls
pub mod Demand
pub mod Inner
