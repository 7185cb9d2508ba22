-- What the contracts of the inner functions of judge cite.
pub mod Inner
