pub mod Joins
pub mod Shallow
