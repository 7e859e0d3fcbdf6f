pub mod Failed
pub mod Done
pub mod Ends
