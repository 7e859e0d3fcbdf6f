pub mod Rounds
pub mod Leads
pub mod Slots
