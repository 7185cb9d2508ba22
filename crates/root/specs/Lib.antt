pub mod Rounded
pub mod Root
pub mod Constants
pub mod Courant
pub mod Inner
