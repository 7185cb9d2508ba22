-- What the contracts of fdtd, and of the two half steps above it, cite.
pub mod Axes
pub mod Yee
pub mod Halves
pub mod Reading
pub mod Letters
pub mod Inner
