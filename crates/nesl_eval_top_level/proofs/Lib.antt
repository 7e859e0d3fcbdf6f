pub mod Storing
pub mod Laying
pub mod Lent
