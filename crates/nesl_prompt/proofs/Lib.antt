pub mod Conversations
pub mod Sessions
pub mod Texts
