pub mod Blocks
pub mod Columns
pub mod Costs
pub mod Frames
pub mod Picked
pub mod Values
