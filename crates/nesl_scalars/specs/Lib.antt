pub mod Outcomes
pub mod Integers
pub mod Scalars
pub mod Laws
