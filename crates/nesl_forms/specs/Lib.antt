pub mod Bytes
pub mod Steps
pub mod Cuts
pub mod Lines
pub mod Stretches
pub mod Forms
