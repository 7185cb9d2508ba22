-- What the contracts of heads cite.
pub mod Numbers
pub mod Payloads
pub mod Inner
