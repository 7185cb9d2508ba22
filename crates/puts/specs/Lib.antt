-- What the contracts of puts cite.
pub mod Inner
