-- What the contracts of grid cite.
pub mod Limits
pub mod Fault
pub mod Stores
pub mod Edited
pub mod Canon
pub mod Vacuum
pub mod Inner
