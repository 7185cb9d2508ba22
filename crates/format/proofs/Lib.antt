-- The laws of the format, which `saves` and `study` cite.
pub mod Walk
pub mod Bare
pub mod Old
pub mod Written
pub mod Back
pub mod Again
pub mod Same
pub mod Examples
pub mod Round
pub mod Cut
pub mod Widened
