-- What the contracts of the inner functions of saves cite.
pub mod Inner
