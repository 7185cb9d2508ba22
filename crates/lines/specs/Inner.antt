-- What the code of this crate, and its callers, promise each other; no reader of the definitions needs it.
pub mod Places
pub mod Rows
