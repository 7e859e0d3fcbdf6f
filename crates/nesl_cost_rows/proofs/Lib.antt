pub mod Added
pub mod ReadBack
