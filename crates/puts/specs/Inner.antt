-- What the code of this crate, and its caller, promise each other; no reader of the definitions needs it.
pub mod Room
pub mod Places
