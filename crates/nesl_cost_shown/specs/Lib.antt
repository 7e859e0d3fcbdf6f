pub mod Tables
pub mod Shown
pub mod Pages
pub mod Parts
pub mod Bounds
