pub mod Bounded
pub mod Summed
