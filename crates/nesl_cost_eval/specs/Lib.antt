pub mod Writes
pub mod Scopes
pub mod Accounts
