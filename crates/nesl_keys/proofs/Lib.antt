pub mod Refused
pub mod Bytes
pub mod Crosses
pub mod Files
pub mod Hearings
pub mod Readings
pub mod Words
