-- Laws that other crates cite.
pub mod Lists
pub mod Bytes
pub mod Patterns
pub mod Elements
pub mod Back
pub mod Row
pub mod Framed
-- The turns of loops over a store, or over numbers of one width.
pub mod Loops
