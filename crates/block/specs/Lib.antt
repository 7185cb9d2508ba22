-- What the contracts and laws of block cite.
pub mod Block
pub mod Inner
