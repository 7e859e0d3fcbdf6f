pub mod Equality
pub mod Made
pub mod Priced
pub mod Shapes
pub mod Sizes
pub mod Totals
pub mod Weaving
pub mod Zipped
