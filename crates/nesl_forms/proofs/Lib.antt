pub mod Edges
pub mod Tiles
pub mod LineLemmas
pub mod FormLemmas
