pub mod Steps
pub mod Reading
pub mod Given
pub mod Laws
