pub mod Scoping
pub mod Sizes
pub mod Firsts
pub mod Loops
pub mod Arms
pub mod Order
