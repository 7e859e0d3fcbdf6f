pub mod Measures
pub mod Sides
pub mod Holds
pub mod Meets
pub mod Scopes
