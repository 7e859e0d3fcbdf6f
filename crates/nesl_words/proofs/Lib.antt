pub mod Flags
pub mod Numbers
pub mod Tasks
