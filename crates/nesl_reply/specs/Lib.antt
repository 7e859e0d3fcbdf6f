pub mod Faults
pub mod Values
pub mod Replies
pub mod Tasks
