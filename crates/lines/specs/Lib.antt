-- What the contracts of lines cite.
pub mod Listing
pub mod Inner
