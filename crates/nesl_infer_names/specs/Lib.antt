pub mod Names
pub mod Firsts
pub mod Scoping
pub mod Scopes
pub mod Order
