pub mod Names
pub mod Out
pub mod Outcome
pub mod Join
pub mod Worked
pub mod Laws
