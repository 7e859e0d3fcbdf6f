pub mod Marks
pub mod Machine
pub mod Stack
pub mod Turns
pub mod Modes
