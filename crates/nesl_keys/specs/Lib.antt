pub mod Admission
pub mod Entries
pub mod Hearing
pub mod Making
pub mod Names
pub mod Reading
pub mod Secrets
pub mod Shown
