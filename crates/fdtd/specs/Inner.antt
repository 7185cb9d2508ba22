-- What the code of this crate, and its callers, promise each other; no reader of the definitions needs it.
pub mod Cell
pub mod Span
pub mod Rows
pub mod Turns
pub mod Begun
pub mod Plain
