pub mod Members
pub mod InOrder
pub mod Bound
pub mod Written
pub mod Places
pub mod Begun
pub mod Numbered
