pub mod Alones
pub mod Places
pub mod Rosters
pub mod Boards
pub mod Crosses
