-- Laws that the functions' proofs cite.
pub mod Spans
pub mod Cellwise
pub mod Sides
pub mod Trios
pub mod Passes
pub mod Places
pub mod Parts
pub mod Stands
pub mod Components
pub mod Lines
pub mod Singles
pub mod Beside
pub mod Fits
pub mod Grids
pub mod Looked
pub mod Depends
