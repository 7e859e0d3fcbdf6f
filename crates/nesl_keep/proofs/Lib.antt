mod Contents
mod Crash
pub mod Lines
pub mod Moments
