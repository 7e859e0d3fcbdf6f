pub mod Crosses
pub mod Fronts
