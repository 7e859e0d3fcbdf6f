pub mod Again
pub mod Rows
