pub mod Stored
pub mod Laid
pub mod TopLevels
