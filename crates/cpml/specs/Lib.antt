-- What the contracts of cpml cite.
pub mod Memory
pub mod Absorber
