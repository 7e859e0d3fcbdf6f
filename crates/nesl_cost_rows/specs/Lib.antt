pub mod Written
pub mod Charges
pub mod Readings
