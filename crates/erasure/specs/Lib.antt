pub mod Erased
pub mod Plain
