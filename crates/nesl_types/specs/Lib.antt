pub mod Class
pub mod Order
pub mod Names
pub mod Texts
pub mod Scheme
pub mod Pieces
pub mod Numbered
