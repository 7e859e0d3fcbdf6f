pub mod Costing
pub mod Each
mod Elements
pub mod Finding
pub mod Framed
mod Pairing
pub mod Places
mod Valued
