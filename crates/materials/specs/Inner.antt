-- What the code of this crate promises to itself; no reader of the definitions needs it.
pub mod Fillable
