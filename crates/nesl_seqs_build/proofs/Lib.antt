pub mod Cutting
pub mod Flattening
pub mod Moved
pub mod Numbers
pub mod Pairing
pub mod Planned
pub mod Splitting
pub mod Unzipping
