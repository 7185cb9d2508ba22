-- What the contracts of the magnetic half step cite.
pub mod Inner
