pub mod Replayed
pub mod Runs
pub mod Stored
pub mod Typed
pub mod Worked
pub mod Grows
