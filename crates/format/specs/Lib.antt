-- What the contracts and laws of saves cite.
pub mod Records
pub mod Save
pub mod Rewind
pub mod ReadBack
pub mod InMemory
pub mod Inner
