-- What the contracts of corrections cite.
pub mod Inner
