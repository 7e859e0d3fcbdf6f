pub mod Outcomes
pub mod Copied
pub mod Reached
