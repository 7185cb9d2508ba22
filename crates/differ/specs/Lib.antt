-- What the contracts of differ cite.
pub mod Apart
