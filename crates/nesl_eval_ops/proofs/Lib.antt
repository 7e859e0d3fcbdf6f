pub mod Falling
pub mod Copies
pub mod Lists
