-- What the C functions come to: the contracts of `api` and the machine of `study` cite it.
pub mod Blocks
pub mod Poles
