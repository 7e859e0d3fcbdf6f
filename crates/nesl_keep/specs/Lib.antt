pub mod Device
pub mod Memory
pub mod Past
pub mod Scroll
