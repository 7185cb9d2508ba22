-- What the contracts of materials cite.
pub mod Materials
pub mod Inner
