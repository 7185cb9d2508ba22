-- What the contracts of due cite.
pub mod Due
