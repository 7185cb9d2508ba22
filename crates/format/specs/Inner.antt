-- What the laws of the round trip cite; no reader of the format needs it.
pub mod Savable
