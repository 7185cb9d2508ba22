-- What the contracts of ade cite.
pub mod Polarization
pub mod Inner
