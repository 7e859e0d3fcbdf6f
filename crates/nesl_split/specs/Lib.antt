pub mod Finding
pub mod Intervals
pub mod Halves
