pub mod Events
pub mod Calls
pub mod Crash
pub mod History
pub mod Moments
