pub mod Nodes
pub mod Meanings
pub mod Known
pub mod Redefinition
pub mod Stored
pub mod Others
