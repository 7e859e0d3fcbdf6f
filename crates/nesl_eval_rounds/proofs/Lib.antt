pub mod Laws
pub mod Rows
pub mod Gathering
pub mod Columned
pub mod Found
