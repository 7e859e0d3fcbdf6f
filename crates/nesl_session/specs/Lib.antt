pub mod Reading
pub mod Names
pub mod Text
pub mod Asking
pub mod Found
pub mod Forms
pub mod Settling
pub mod Inside
