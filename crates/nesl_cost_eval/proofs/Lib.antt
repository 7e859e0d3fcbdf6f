pub mod Running
pub mod Lists
pub mod Turns
pub mod Charging
pub mod Binding
pub mod Told
pub mod Arms
