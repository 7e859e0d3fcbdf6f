pub mod Arriving
pub mod Marks
pub mod Plans
