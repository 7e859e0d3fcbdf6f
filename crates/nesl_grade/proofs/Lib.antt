pub mod Runs
pub mod Rows
pub mod Fronts
pub mod GradeLemmas
