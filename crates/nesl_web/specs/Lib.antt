pub mod Access
pub mod Asked
pub mod Frames
pub mod Messages
pub mod Rest
pub mod Route
