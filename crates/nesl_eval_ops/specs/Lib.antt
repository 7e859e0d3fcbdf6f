pub mod Codes
pub mod Kept
pub mod View
pub mod Copies
pub mod Lists
pub mod Weight
pub mod Falls
