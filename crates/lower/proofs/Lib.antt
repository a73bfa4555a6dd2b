pub mod Images
pub mod Reached
