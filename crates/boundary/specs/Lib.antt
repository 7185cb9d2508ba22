-- What the contracts of boundary and of walling cite.
pub mod Lossy
pub mod Walls
