-- What the contracts of tfsf cite.
pub mod Wave
pub mod Line
pub mod Corrections
pub mod Inner
