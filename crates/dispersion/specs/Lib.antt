-- What the contracts of dispersion cite.
pub mod Ade
pub mod Material
