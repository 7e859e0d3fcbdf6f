pub mod Matches
pub mod Powers
pub mod Roots
pub mod Quotients
pub mod Zeros
