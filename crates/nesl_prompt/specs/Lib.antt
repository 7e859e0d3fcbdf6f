pub mod Words
pub mod Points
pub mod Conversation
pub mod Laws
pub mod Text
