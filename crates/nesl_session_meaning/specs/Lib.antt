pub mod Reading
pub mod State
pub mod Response
pub mod Finding
pub mod Step
pub mod Solo
pub mod Laws
pub mod Worked
