mod Examples
pub mod Comparisons
pub mod Copies
pub mod Elements
pub mod Questions
pub mod Sequences
pub mod Trees
pub mod Weights
