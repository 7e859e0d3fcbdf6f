pub mod Instances
pub mod Graph
pub mod Tables
pub mod Steps
pub mod Readings
pub mod Forms
pub mod Outlines
pub mod Sizes
