pub mod Meant
pub mod Copying
pub mod Reaching
