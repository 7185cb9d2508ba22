-- What the contracts of halves cite.
pub mod Parts
pub mod Inner
