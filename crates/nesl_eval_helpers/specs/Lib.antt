pub mod Halves
pub mod Timings
