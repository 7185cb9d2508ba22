-- What the contracts of the electric half step cite.
pub mod Inner
