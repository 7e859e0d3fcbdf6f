pub mod Uses
pub mod Verdicts
pub mod Laws
pub mod References
pub mod Only
pub mod Items
