pub mod Complete
pub mod Stacks
pub mod Turns
mod PatternTrees
