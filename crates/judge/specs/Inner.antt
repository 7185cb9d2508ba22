-- What the functions of this crate promise each other; no reader of the definitions needs it.
pub mod Places
