pub mod Failures
pub mod Offered
pub mod Prompted
pub mod Program
