-- That a change reaches one cell farther in each step.
pub mod Near
pub mod Hoods
pub mod Halved
pub mod Once
pub mod Reached
pub mod Worked
