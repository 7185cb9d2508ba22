-- Laws that the proofs of the functions cite.
pub mod Recurrence
pub mod Scaling
pub mod Squares
pub mod Nearest
pub mod Fields
pub mod Result
pub mod Cases
pub mod Unique
pub mod Computed
pub mod Examples
pub mod Neighbours
pub mod Sums
