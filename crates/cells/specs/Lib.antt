-- What the contracts of cells cite.
pub mod Cells
pub mod Reading
pub mod Box
pub mod Counted
pub mod Inner
