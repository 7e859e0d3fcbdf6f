pub mod Rules
pub mod Shapes
pub mod Words
pub mod Worked
pub mod Wanted
pub mod Listed
